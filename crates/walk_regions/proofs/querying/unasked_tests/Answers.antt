use Rattle.std.proofs.Common.{◌≡◌, ◌<◌, ℕ, Bool, false, true, List, [], ◌∷◌, ◌++◌, length, ap, ◌∙◌, subst, ⊎_elim, arith, Vec, Global}
use Rattle.std.proofs.lemmas.List.{get_or_default}
use Rattle.kat_model.specs.Members.{Has}
use Rattle.kat_model.proofs.Lists.{has_append}
use Rattle.walk_regions.specs.Working.Querying.{IsUnaskedTest}
use Rattle.walk_regions.proofs.querying.unasked_tests.Goals as goal
use Rattle.walk_regions.proofs.querying.unasked_tests.Goals.{then-not-was_queried+in_ok-push, else-not-was_queried}

one_more : (queried : List Bool) (old new : List ℕ) (test t : ℕ) → new ≡ old ++ test ∷ [] → IsUnaskedTest queried test → ((s : ℕ) → Has old s → IsUnaskedTest queried s) → Has new t → IsUnaskedTest queried t
one_more queried old new test t is own each h =
    ⊎_elim (each t) (λ m. ⊎_elim (λ e. subst (IsUnaskedTest queried) e own) absurd m) (has_append old (test ∷ []) t (subst (λ l. Has l t) is h))

pub loop-test-preserved : goal.loop-test-preserved
loop-test-preserved c =
    elim c.if-not-was_queried.branch [
      | then-not-was_queried+in_ok-push w ↦ λ t h.
          let lt : c.loop-test.test < length c.args.queried.now = omega arith in
          one_more c.args.queried.now c.loop-test.unasked.items c.if-not-was_queried.unasked.items c.loop-test.test t (ap (λ (v : Vec ℕ Global). v.items) w.unasked-is ∙ w.in_ok-push.ensures.items)
          (get_or_default c.args.queried.now c.loop-test.test true false lt ∙ w.if-not-was_queried.true) c.loop-test.invariant h
      | else-not-was_queried w ↦ λ t h. c.loop-test.invariant t (subst (λ (v : Vec ℕ Global). Has v.items t) w.unasked-is h)
    ]
