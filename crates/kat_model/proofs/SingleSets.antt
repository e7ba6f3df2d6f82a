-- The next terms of a set with at most one member, if each term has at most one step.
use Rattle.std.proofs.Common.{◌≡◌, ℕ, ◌⊎◌, inl, inr, ⊎_elim, List, [], ◌∷◌, refl, sym, subst}
use Rattle.kat_model.specs.Trees.{Term}
use Rattle.kat_model.specs.Members.{Has, SameMembers}
use Rattle.kat_model.specs.Steps.{Atom, next, set_next, reach}
use Rattle.kat_model.specs.Guarded.{IsSingle}
use Rattle.kat_model.specs.Laws.{HasOneStep}
use Rattle.kat_model.proofs.Lists.{has_flat_map}
use Rattle.kat_model.proofs.Reach.{next_reach, reach_next}

-- a list of equal members is empty, or has the members of a singleton list
none_or_one : {X : Type 0} (P : X → Type 0) (xs : List X) → ((x : X) → Has xs x → P x) → ((x y : X) → Has xs x → Has xs y → x ≡ y) → SameMembers xs [] ⊎ ((x : X) × P x × SameMembers xs (x ∷ []))
none_or_one P [] each same = inl (λ x. ((λ h. h), (λ h. h)))
none_or_one P (x ∷ xs) each same =
    inr (x, each x (inl refl), (λ y. ((λ h. inl (same x y (inl refl) h)), (λ h. ⊎_elim (λ e. inl e) (λ n. absurd n) h))))

module _ (e : Term) (own : HasOneStep e) (further : (x : Term) → Has (reach e) x → HasOneStep x) (es : List Term) (atom : Atom) (a : ℕ) where
  next_of_none : SameMembers es [] → SameMembers (set_next es atom a) []
  next_of_none none y = ((λ h. let r = has_flat_map (λ x. next x atom a) es y h in (none r.0).0 r.1), (λ h. absurd h))

  module _ (x : Term) (within : Has (e ∷ reach e) x) (only : SameMembers es (x ∷ [])) where
    next_of_only : (y : Term) → Has (set_next es atom a) y → Has (next x atom a) y
    next_of_only y h =
        let r = has_flat_map (λ z. next z atom a) es y h in
        ⊎_elim (λ s. subst (λ z. Has (next z atom a) y) (sym s) r.2) (λ n. absurd n) ((only r.0).0 r.1)

    next_within : (y : Term) → Has (set_next es atom a) y → Has (e ∷ reach e) y
    next_within y h =
        let k = next_of_only y h in
        inr (⊎_elim (λ s. next_reach atom a e y (subst (λ z. Has (next z atom a) y) (sym s) k)) (λ r. reach_next atom a e x y r k) within)

    next_same : (y z : Term) → Has (set_next es atom a) y → Has (set_next es atom a) z → y ≡ z
    next_same y z h k =
        let one : HasOneStep x = ⊎_elim (λ s. subst HasOneStep s own) (λ r. further x r) within in
        (one.alone atom a a y z (next_of_only y h) (next_of_only z k)).1

  pub single_next : IsSingle e es → IsSingle e (set_next es atom a)
  single_next s =
      ⊎_elim
      (λ none. inl (next_of_none none))
      (λ r. none_or_one (Has (e ∷ reach e)) (set_next es atom a) (next_within r.0 r.1 r.2) (next_same r.0 r.1 r.2))
      s
