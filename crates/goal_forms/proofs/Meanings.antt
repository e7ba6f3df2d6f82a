-- The meaning of the sides of goals.
use Rattle.std.proofs.Common.{◌≡◌, ℕ, ◌<◌, ◌↔◌, ◌⊎◌, inl, inr, ⊎_elim, Bool, true, false, not, refl, sym, subst}
use Rattle.std.specs.Bool.{IsTrue}
use Rattle.kat_model.specs.Trees.{TestTree, complement, Term}
use Rattle.kat_model.specs.Steps.{truth}
use Rattle.kat_model.specs.Relations.{Table, atom_at, Relates}
use Rattle.goal_forms.specs.Sides.{below_sides, triple_sides}
use Rattle.goal_forms.specs.Laws.{DenoteOne, IsBelow, TrueAt, HoldsTriple, GoalsMean}

below_means : (t : Table) (small large : Term) → DenoteOne t (below_sides small large) ↔ IsBelow t small large
below_means t small large = (
  (λ one i j li lj r. (one i j li lj).0 (inl r)),
  (λ within i j li lj. ((λ r. ⊎_elim (within i j li lj) (λ s. s) r), (λ r. inr r))),
)

-- what is not false is true
not_refused : (b : Bool) → (IsTrue (not b) → ⊥) → IsTrue b
not_refused true h = refl
not_refused false h = absurd (h refl)

both_ways : (b : Bool) → IsTrue (not b) → IsTrue b → ⊥
both_ways true h k = cc
both_ways false h k = cc

triple_means : (t : Table) (pre : TestTree) (body : Term) (post : TestTree) → DenoteOne t (triple_sides pre body post) ↔ HoldsTriple t pre body post
triple_means t pre body post = (holds, agree)
  where
    holds : DenoteOne t (triple_sides pre body post) → HoldsTriple t pre body post
    holds one i j li lj at run =
        not_refused (truth post (atom_at t j)) (λ fails. (one i j li lj).0 (i, li, (refl, at), (j, lj, run, (refl, fails))))

    agree : HoldsTriple t pre body post → DenoteOne t (triple_sides pre body post)
    agree triple i j li lj = ((λ r. refuted r), (λ r. absurd r))
      where
        refuted : Relates t (triple_sides pre body post).left i j → ⊥
        refuted (k, lk, (same, at), (l, ll, run, (end, fails))) =
            both_ways (truth post (atom_at t l)) fails (triple k l lk ll (subst (TrueAt t pre) same at) run)

pub goals_mean_lem : GoalsMean
goals_mean_lem = record { below = below_means; triple = triple_means }
