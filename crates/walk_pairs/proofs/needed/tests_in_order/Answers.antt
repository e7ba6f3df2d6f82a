use Rattle.std.proofs.Common.{◌≡◌, List, ℕ, ◌∷◌, ◌++◌, subst}
use Rattle.std.specs.Map.Iter.{deref}
use Rattle.std.proofs.lemmas.Map.Iter.{rest_more}
use Rattle.walk_pairs.proofs.NamedTests.{listed_next}
use Rattle.walk_pairs.proofs.SortedKeys.{sorted_ascending}
use Rattle.walk_pairs.proofs.needed.tests_in_order.Goals as goal

pub loop-test-preserved : goal.loop-test-preserved
loop-test-preserved c =
    let cut : c.loop-test.test-iterator ≡ c.in-Some.test.now ∷ c.next.new.self = rest_more deref _ _ _ c.in-Some.test c.in-Some.is c.next.ensures.steps in
    let before = subst (λ (l : List ℕ). c.loop-test.tests.keys ++ l ≡ c.args.all.now.keys) cut c.loop-test.invariant in
    listed_next c.args.all.now.keys c.loop-test.tests.keys c.next.new.self c.insert.new.self.keys c.in-Some.test.now (sorted_ascending c.args.all.now.keys c.iter-test-items.ensures.ordered) before c.in_ok-insert.ensures.keys
