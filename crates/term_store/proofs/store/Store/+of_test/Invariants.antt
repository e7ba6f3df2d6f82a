use Rattle.std.proofs.Common.{◌+◌, ◌*◌, max}
use Rattle.kat_model.proofs.tree.Test.TheLaws.{the_size}
use Rattle.term_store.proofs.store.Store.+of_test.Given as goal

-- The measure of the call for both parts lies between the measures of the calls for the whole and for each part.
abbrev pub decreases-of_test : goal.decreases-of_test
decreases-of_test l = 3 * the_size l.test.now + 1

abbrev pub decreases-shape_of_test : goal.decreases-shape_of_test
decreases-shape_of_test l = 3 * the_size l.test.now

abbrev pub decreases-two_tests : goal.decreases-two_tests
decreases-two_tests l = 3 * max (the_size l.left.now) (the_size l.right.now) + 2
