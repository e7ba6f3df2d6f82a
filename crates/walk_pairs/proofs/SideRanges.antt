-- The terms of the closed sides of a problem, and all terms that they reach, are in the range of the problem.
use Rattle.std.proofs.Common.{⊎_elim, ℕ, List, [], ◌∷◌, map, subst}
use Rattle.kat_model.specs.Trees.{Term, zero, one, test, act, sum, product, star}
use Rattle.kat_model.specs.Members.{Has}
use Rattle.kat_model.specs.Problems.{ProblemParts, IsInRange, AreInRange, IsProblem}
use Rattle.kat_model.specs.Steps.{dot, reach}
use Rattle.kat_model.specs.Balanced.{sum_of}
use Rattle.kat_model.specs.Closed.{universal_of, inside, closed_under, closed}
use Rattle.kat_model.proofs.Lists.{has_append, has_map}
use Rattle.kat_model.proofs.Ranges.{IsInRange-dot, IsInRange-sum_of, IsInRange-universal_of}

module _ (t a : ℕ) where
  pub reach_in_range : (e x : Term) → IsInRange t a e → Has (reach e) x → IsInRange t a x
  reach_in_range zero x r h = absurd h
  reach_in_range one x r h = absurd h
  reach_in_range (test b) x r h = absurd h
  reach_in_range (act b) x r h = ⊎_elim (λ e. subst (IsInRange t a) e tt) absurd h
  reach_in_range (sum e f) x r h = ⊎_elim (reach_in_range e x r.0) (reach_in_range f x r.1) (has_append (reach e) (reach f) x h)
  reach_in_range (product e f) x r h =
      ⊎_elim
      (λ p. let y = has_map (λ z. dot z f) (reach e) x p in subst (IsInRange t a) y.2 (IsInRange-dot t a y.0 f (reach_in_range e y.0 r.0 y.1) r.1))
      (reach_in_range f x r.1)
      (has_append (map (λ z. dot z f) (reach e)) (reach f) x h)
  reach_in_range (star e) x r h = let y = has_map (λ z. dot z (star e)) (reach e) x h in subst (IsInRange t a) y.2 (IsInRange-dot t a y.0 (star e) (reach_in_range e y.0 r y.1) r)

  closed_in_range : (hyps : List Term) (left right : Term) → AreInRange t a hyps → IsInRange t a left → IsInRange t a right → IsInRange t a (closed_under a hyps left right).left × IsInRange t a (closed_under a hyps left right).right
  closed_in_range [] left right h l r = (l, r)
  closed_in_range (e ∷ es) left right h l r = ((l, around), (r, around))
    where
      around : IsInRange t a (inside (universal_of a) (sum_of (e ∷ es)))
      around = (IsInRange-universal_of t a, (IsInRange-sum_of t a (e ∷ es) h, IsInRange-universal_of t a))

pub sides_in_range : (q : ProblemParts) → IsProblem q → IsInRange q.tests q.actions (closed q).left × IsInRange q.tests q.actions (closed q).right
sides_in_range q p = closed_in_range q.tests q.actions q.hyps q.left q.right p.hyps p.left p.right

-- a side, and each term that it reaches, is in range
pub within_side : (q : ProblemParts) (side x : Term) → IsInRange q.tests q.actions side → Has (side ∷ reach side) x → IsInRange q.tests q.actions x
within_side q side x range h = ⊎_elim (λ s. subst (IsInRange q.tests q.actions) s range) (λ k. reach_in_range q.tests q.actions side x range k) h
