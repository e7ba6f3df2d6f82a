-- Equality tests find members, and what inserting a line into a set of the lines so far shows.
use Rattle.std.proofs.Common.{◌≡◌, inl, inr, ⊎_elim, List, [], ◌∷◌, ◌++◌, Bool, true, false, not, refl, sym, ap, ◌∙◌, subst}
use Rattle.std.specs.declared.cmp.Ordering.{Ordering}
use Rattle.std.specs.List.{list_any}
use Rattle.std.specs.Ordering.{is_eq}
use Rattle.std.specs.BTreeMap.{is_at}
use Rattle.std.specs.BTreeSet.{insert_key}
use Rattle.std.proofs.lemmas.Bool.{false≢true, not-true, not-false}
use Rattle.std.proofs.lemmas.Map.Lookups.{CmpEqualImpliesEq}
use Rattle.std.proofs.lemmas.Map.Views.{tells_apart}
use Rattle.kat_model.specs.Members.{Has, SameMembers}
use Rattle.kat_model.proofs.Lists.{has_any, any_has, has_left, has_right, has_pushed}
use Rattle.kat_model.proofs.SetKeys.{inserted_has}
use Rattle.line_format.specs.KnownLines.{Distinguishes, IsReflexive}

-- an equality test finds a member
module _ {X : Type 0} (same : X → X → Bool) (equal : (x y : X) → same x y ≡ true → x ≡ y) (itself : (x : X) → same x x ≡ true) where
  pub any_same : (xs : List X) (x : X) → Has xs x → list_any (same x) xs ≡ true
  any_same xs x h = any_has (same x) xs x h (itself x)

  same_any : (xs : List X) (x : X) → list_any (same x) xs ≡ true → Has xs x
  same_any xs x e = let found = has_any (same x) xs e in subst (Has xs) (sym (equal x found.0 found.2)) found.1

  pub lacks_any : (xs : List X) (x : X) → list_any (same x) xs ≡ false → Has xs x → ⊥
  lacks_any xs x e h = let there = any_same xs x h in cc

  pub any_lacks : (xs : List X) (x : X) → (Has xs x → ⊥) → list_any (same x) xs ≡ false
  any_lacks xs x lacks = by_cases (list_any (same x) xs) refl
    where
      by_cases : (b : Bool) → list_any (same x) xs ≡ b → list_any (same x) xs ≡ false
      by_cases true e = absurd (lacks (same_any xs x e))
      by_cases false e = e

-- an insert reports a key as old exactly when the set had it before
module _ {K : Type 0} {R : K → K → Ordering} (exact : Distinguishes R) (own : IsReflexive R) (k : K) (ks : List K) (is_new : Bool) (given : is_new ≡ not (list_any (is_at (R k)) ks)) where
  pub old_known : is_new ≡ false → Has ks k
  old_known old =
      let found = has_any (is_at (R k)) ks (not-false (list_any (is_at (R k)) ks) (sym given ∙ old)) in
      subst (Has ks) (sym (tells_apart exact k found.0 found.2)) found.1

  pub new_unknown : is_new ≡ true → Has ks k → ⊥
  new_unknown new h = false≢true (sym (not-true (list_any (is_at (R k)) ks) (sym given ∙ new)) ∙ any_has (is_at (R k)) ks k h (ap is_eq (own k)))

-- adding a member to the set and to the list keeps their members the same
pub known_pushed : {X : Type 0} {R : X → X → Ordering} → CmpEqualImpliesEq R → (olds xs : List X) (x : X) → SameMembers olds xs → SameMembers (insert_key R olds x) (xs ++ x ∷ [])
known_pushed exact olds xs x was y =
    let keys = inserted_has exact x olds y in (
      (λ h. ⊎_elim (λ k. has_left xs (x ∷ []) y ((was y).0 k)) (λ e. has_right xs (x ∷ []) y (inl e)) (keys.0 h)),
      (λ h. keys.1 (⊎_elim (λ k. inl ((was y).1 k)) inr (has_pushed xs x y h))),
    )
