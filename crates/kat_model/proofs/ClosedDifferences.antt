-- Strings on which the closed sides differ. On allowed strings, short hypotheses need not be eliminated.
use Rattle.std.proofs.Common.{◌≡◌, ◌≢◌, ℕ, ◌↔◌, ⊎_elim, List, [], ◌∷◌, refl, sym, ap, ◌∙◌, true, false, ◌||◌}
use Rattle.std.proofs.Math.Bool.{or-true, or-false}
use Rattle.std.proofs.lemmas.Bool.{false_from_ne_true}
use Rattle.kat_model.specs.Trees.{Term, sum}
use Rattle.kat_model.specs.Members.{Has}
use Rattle.kat_model.specs.Balanced.{sum_of}
use Rattle.kat_model.specs.Steps.{Atom}
use Rattle.kat_model.specs.Strings.{Move, last_atom, AreMoves, accepts}
use Rattle.kat_model.specs.Closed.{universal_of, inside, closed_under}
use Rattle.kat_model.specs.Laws.{IsWithin}
use Rattle.kat_model.specs.Degrees.{AreSplit}
use Rattle.kat_model.specs.AllowedMoves.{AreAllowed}
use Rattle.kat_model.proofs.Acceptance.{has_set_accepts, set_accepts_has, accepts-sum}
use Rattle.kat_model.proofs.BalancedSums.{accepts-sum_of}
use Rattle.kat_model.proofs.Universal.{accepts_inside, inside_universal_accepts}
use Rattle.kat_model.proofs.AllowedStrings.{allowed_not_within, none_within_allowed}
use Rattle.kat_model.proofs.Splits.{split_short, split_long, split_cases}

module _ (tests actions : ℕ) (left right : Term) (atom : Atom) (ms : List Move) (are : AreMoves tests actions ms) where
  -- the closed sides with these hypotheses differ on the string
  abbrev pub ClosedDiffer : List Term → Type 0
  ClosedDiffer hyps = accepts (closed_under actions hyps left right).left atom ms ≢ accepts (closed_under actions hyps left right).right atom ms

  some_within : (hyps : List Term) → IsWithin (sum_of hyps) atom ms → (h : Term) × Has hyps h × IsWithin h atom ms
  some_within hyps w =
      let r = has_set_accepts hyps (last_atom atom w.before) w.part (sym (accepts-sum_of hyps (last_atom atom w.before) w.part) ∙ w.taken) in
      (r.0, r.1, record { before = w.before; part = w.part; after = w.after; whole = w.whole; taken = r.2 })

  within_some : (hyps : List Term) (h : Term) → Has hyps h → IsWithin h atom ms → IsWithin (sum_of hyps) atom ms
  within_some hyps h has w = record {
    before = w.before;
    part = w.part;
    after = w.after;
    whole = w.whole;
    taken = accepts-sum_of hyps (last_atom atom w.before) w.part ∙ set_accepts_has hyps (last_atom atom w.before) w.part h has w.taken;
  }

  -- if the closed sides differ, no hypothesis accepts a part of the string, since both would accept it
  pub differ_none_within : (hyps : List Term) → ClosedDiffer hyps → (h : Term) → Has hyps h → IsWithin h atom ms → ⊥
  differ_none_within [] differ h has w = absurd has
  differ_none_within (g ∷ gs) differ h has w =
      let around = inside (universal_of actions) (sum_of (g ∷ gs)) in
      let taken : accepts around atom ms ≡ true =
      inside_universal_accepts tests actions (sum_of (g ∷ gs)) atom ms are (within_some (g ∷ gs) h has w) in
      let both : (e : Term) → accepts (sum e around) atom ms ≡ true =
      λ e. accepts-sum e around atom ms ∙ ap (λ b. accepts e atom ms || b) taken ∙ or-true (accepts e atom ms) in
      differ (both left ∙ sym (both right))

  -- if no hypothesis accepts a part of the string, the closed sides accept it exactly when the sides do
  pub none_within_closed : (hyps : List Term) → ((h : Term) → Has hyps h → IsWithin h atom ms → ⊥)
      → (accepts (closed_under actions hyps left right).left atom ms ≡ accepts left atom ms) × (accepts (closed_under actions hyps left right).right atom ms ≡ accepts right atom ms)
  none_within_closed [] none = (refl, refl)
  none_within_closed (g ∷ gs) none =
      let around = inside (universal_of actions) (sum_of (g ∷ gs)) in
      let refused : accepts around atom ms ≡ false =
      false_from_ne_true _ (λ t. let r = some_within (g ∷ gs) (accepts_inside (universal_of actions) (sum_of (g ∷ gs)) atom ms t) in none r.0 r.1 r.2) in
      let same : (e : Term) → accepts (sum e around) atom ms ≡ accepts e atom ms =
      λ e. accepts-sum e around atom ms ∙ ap (λ b. accepts e atom ms || b) refused ∙ or-false (accepts e atom ms) in
      (same left, same right)

  sides_differ : (hyps : List Term) → ((h : Term) → Has hyps h → IsWithin h atom ms → ⊥) → ClosedDiffer hyps → accepts left atom ms ≢ accepts right atom ms
  sides_differ hyps none differ e = let c = none_within_closed hyps none in differ (c.0 ∙ e ∙ sym c.1)

  closed_differ : (hyps : List Term) → ((h : Term) → Has hyps h → IsWithin h atom ms → ⊥) → accepts left atom ms ≢ accepts right atom ms → ClosedDiffer hyps
  closed_differ hyps none differ e = let c = none_within_closed hyps none in differ (sym c.0 ∙ e ∙ c.1)

  -- the closed sides differ on a string exactly when it is allowed and the closed sides with only the long hypotheses
  -- differ on it
  pub differ_by_allowed : (hyps shorts longs : List Term) → AreSplit hyps shorts longs → ClosedDiffer hyps ↔ (AreAllowed shorts atom ms × ClosedDiffer longs)
  differ_by_allowed hyps shorts longs split = (there, back)
    where
      there : ClosedDiffer hyps → AreAllowed shorts atom ms × ClosedDiffer longs
      there differ =
          let none = differ_none_within hyps differ in (
            none_within_allowed shorts atom ms (λ h k. none h (split_short hyps shorts longs split h k)),
            closed_differ longs (λ h k. none h (split_long hyps shorts longs split h k)) (sides_differ hyps none differ),
          )

      back : AreAllowed shorts atom ms × ClosedDiffer longs → ClosedDiffer hyps
      back both =
          let long = differ_none_within longs both.1 in
          let none : (h : Term) → Has hyps h → IsWithin h atom ms → ⊥ =
          λ h k. ⊎_elim (λ s. allowed_not_within shorts split.short atom ms both.0 h s) (long h) (split_cases hyps shorts longs split h k) in
          closed_differ hyps none (sides_differ longs long both.1)
