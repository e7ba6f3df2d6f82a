use Rattle.std.proofs.Common.{◌+◌, ◌*◌, max}
use Rattle.kat_model.proofs.tree.Kat.TheLaws.{the_size}
use Rattle.term_store.proofs.store.Store.+of_tree.Given as goal

-- The measure of the call for both parts lies between the measures of the calls for the whole and for each part.
abbrev pub decreases-of_tree : goal.decreases-of_tree
decreases-of_tree l = 3 * the_size l.term.now + 1

abbrev pub decreases-shape_of_tree : goal.decreases-shape_of_tree
decreases-shape_of_tree l = 3 * the_size l.term.now

abbrev pub decreases-two_trees : goal.decreases-two_trees
decreases-two_trees l = 3 * max (the_size l.left.now) (the_size l.right.now) + 2
