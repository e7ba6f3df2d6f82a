-- Unit propagation along hints, hint by hint.
use Rattle.std.proofs.Common.{◌≡◌, ℕ, inl, inr, ⊎_elim, List, [], ◌∷◌, ◌++◌, sym, subst, Bool, Option, None, Some, ◌+◌, ◌<◌, length, get_or, drop, add-one}
use Rattle.std.proofs.Math.Seq.{drop-cons}
use Rattle.lrat_checker.specs.Literals.{opposite}
use Rattle.lrat_checker.specs.Propagation.{Entry, absent, deleted, present, IsUnit, LeadsToConflict, IsHintReason, IsHintsReason}
use Rattle.lrat_checker.specs.Working.Steps.{Propagates, IsConflict, IsFailure, IsHintsVerdict}
use Rattle.lrat_checker.specs.declared.literal.Literal.{Literal}
use Rattle.lrat_checker.specs.declared.answer.Reason.{Reason}

failure_reason : (falses : List Literal) (hint : ℕ) (More : List Literal → Type 0) (entry : Entry) (reason : Reason) → IsFailure falses hint entry reason → IsHintReason hint falses More entry reason
failure_reason falses hint More absent reason e = e
failure_reason falses hint More deleted reason e = e
failure_reason falses hint More (present clause) reason e = inl e

module _ (known : ℕ → Entry) (falses : List Literal) (hint : ℕ) (hints : List ℕ) (resolvents : Bool) where
  pub conflict_first : IsConflict known falses hint → IsHintsVerdict known falses (hint ∷ hints) resolvents None
  conflict_first c = (c.clause, c.here, inl c.falsified)

  pub failure_first : (reason : Reason) → IsFailure falses hint (known hint) reason → IsHintsVerdict known falses (hint ∷ hints) resolvents (Some reason)
  failure_first reason e = failure_reason falses hint (λ more. IsHintsReason known more hints resolvents reason) (known hint) reason e

  -- the verdict on the hints after one that propagates
  pub verdict_after : (more : List Literal) → Propagates known falses hint more → (v : Option Reason) → IsHintsVerdict known more hints resolvents v → IsHintsVerdict known falses (hint ∷ hints) resolvents v
  verdict_after more p None lead =
      (p.clause, p.here, inr (p.literal, p.unit, subst (λ f. LeadsToConflict known f hints) p.more_false lead))
  verdict_after more p (Some reason) rest =
      let Rest : List Literal → Type 0 = λ f. IsHintsReason known f hints resolvents reason in
      subst (λ entry. IsHintReason hint falses Rest entry reason) (sym p.here) (inr (p.literal, p.unit, subst Rest p.more_false rest))

pub same_unit : (falses clause : List Literal) (l m : Literal) → IsUnit falses clause l → IsUnit falses clause m → l ≡ m
same_unit falses clause l m u v = ⊎_elim (λ e. e) (λ f. absurd (u.not_false f)) (v.others l u.member)

-- hints that lead to a conflict have no reason against them
pub reason_or_conflict : (known : ℕ → Entry) (hints : List ℕ) (falses : List Literal) (resolvents : Bool) (reason : Reason) → IsHintsReason known falses hints resolvents reason → LeadsToConflict known falses hints → ⊥
reason_or_conflict known [] falses resolvents reason e lead = lead
reason_or_conflict known (hint ∷ hints) falses resolvents reason e lead =
    let Rest : List Literal → Type 0 = λ f. IsHintsReason known f hints resolvents reason in
    let clause : List Literal = lead.0 in
    let here : IsHintReason hint falses Rest (present clause) reason = subst (λ entry. IsHintReason hint falses Rest entry reason) lead.1 e in
    ⊎_elim
    (λ all. ⊎_elim (λ open'. open'.0.not_falsified all) (λ r. r.1.not_false (all r.0 r.1.member)) here)
    (λ u. ⊎_elim
    (λ open'. open'.0.not_unit u.0 u.1)
    (λ r. reason_or_conflict known hints (falses ++ opposite u.0 ∷ []) resolvents reason (subst (λ l. Rest (falses ++ opposite l ∷ [])) (same_unit falses clause r.0 u.0 r.1 u.1) r.2) u.2)
    here)
    lead.2

-- the verdict on the hints from a place on
pub verdict_drop : (known : ℕ → Entry) (falses : List Literal) (hints : List ℕ) (i : ℕ) (resolvents : Bool) (v : Option Reason) → i < length hints → IsHintsVerdict known falses (get_or hints i 0 ∷ drop (i + 1) hints) resolvents v → IsHintsVerdict known falses (drop i hints) resolvents v
verdict_drop known falses hints i resolvents v within verdict =
    let next : drop i hints ≡ get_or hints i 0 ∷ drop (i + 1) hints = rw add-one (drop-cons hints i 0 within) in
    subst (λ hs. IsHintsVerdict known falses hs resolvents v) (sym next) verdict
