use Rattle.std.proofs.Common.{◌≡◌, List, ℕ, ◌∷◌, ◌++◌, subst}
use Rattle.std.specs.Map.Iter.{deref}
use Rattle.std.proofs.lemmas.Map.Iter.{rest_more}
use Rattle.walk_pairs.proofs.NamedTests.{listed_next}
use Rattle.walk_pairs.proofs.SortedKeys.{sorted_ascending}
use Rattle.walk_pairs.proofs.needed.terms_in_order.Goals as goal

pub loop-term-preserved : goal.loop-term-preserved
loop-term-preserved c =
    let cut : c.loop-term.term-iterator ≡ c.in-Some.term.now ∷ c.next.new.self = rest_more deref _ _ _ c.in-Some.term c.in-Some.is c.next.ensures.steps in
    let before = subst (λ (l : List ℕ). c.loop-term.terms.keys ++ l ≡ c.args.all.now.keys) cut c.loop-term.invariant in
    listed_next c.args.all.now.keys c.loop-term.terms.keys c.next.new.self c.insert.new.self.keys c.in-Some.term.now (sorted_ascending c.args.all.now.keys c.iter-term-items.ensures.ordered) before c.in_ok-insert.ensures.keys
