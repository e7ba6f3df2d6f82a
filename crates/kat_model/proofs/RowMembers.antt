-- A list that has each new element once has all of them.
use Rattle.std.proofs.Common.{◌≡◌, inl, inr, List, [], ◌∷◌, ◌++◌, refl, sym, subst, Bool, true, false, if◌then◌else◌}
use Rattle.std.specs.List.{list_any}
use Rattle.kat_model.specs.Members.{Has, IsSubset}
use Rattle.kat_model.proofs.Lists.{has_left, has_right, has_any}
use Rattle.kat_model.specs.UniqueRows.{with_new, with_all_new}

module _ {X : Type 0} (same : X → X → Bool) (is : (x y : X) → same x y ≡ true → x ≡ y) where
  with_new_keeps : (xs : List X) (y x : X) → Has xs x → Has (with_new same xs y) x
  with_new_keeps xs y x h = go (list_any (same y) xs)
    where
      go : (b : Bool) → Has (if b then xs else xs ++ y ∷ []) x
      go true = h
      go false = has_left xs (y ∷ []) x h

  with_new_has : (xs : List X) (x : X) → Has (with_new same xs x) x
  with_new_has xs x = go (list_any (same x) xs) refl
    where
      go : (b : Bool) → list_any (same x) xs ≡ b → Has (if b then xs else xs ++ x ∷ []) x
      go true e = let y = has_any (same x) xs e in subst (Has xs) (sym (is x y.0 y.2)) y.1
      go false e = has_right xs (x ∷ []) x (inl refl)

  with_all_new_keeps : (xs ys : List X) (x : X) → Has xs x → Has (with_all_new same xs ys) x
  with_all_new_keeps xs [] x h = h
  with_all_new_keeps xs (y ∷ ys) x h = with_all_new_keeps (with_new same xs y) ys x (with_new_keeps xs y x h)

  pub with_all_new_has : (xs ys : List X) → IsSubset ys (with_all_new same xs ys)
  with_all_new_has xs [] x h = absurd h
  with_all_new_has xs (y ∷ ys) x (inl e) = with_all_new_keeps (with_new same xs y) ys x (subst (Has (with_new same xs y)) e (with_new_has xs y))
  with_all_new_has xs (y ∷ ys) x (inr h) = with_all_new_has (with_new same xs y) ys x h
