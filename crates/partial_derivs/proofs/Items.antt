-- Members of a list by their places.
use Rattle.std.proofs.Common.{◌≡◌, ◌<◌, ◌+◌, ℕ, List, [], ◌∷◌, ◌++◌, length, get_or, take, drop, sym, ap, ◌∙◌, subst}
use Rattle.std.proofs.lemmas.Option.{slice_get-get_or}
use Rattle.std.proofs.lemmas.List.{take-append-drop, take_more}
use Rattle.kat_model.specs.Members.{Has}
use Rattle.kat_model.proofs.Lists.{has_left}
use Rattle.kat_model.proofs.Places.{has_at}

module _ {X : Type 0} (xs : List X) (i : ℕ) where
  -- an element read at a place is a member
  pub has_item : (x : X) → i < length xs → x ≡ get_or xs i x → Has xs x
  has_item x lt is = subst (Has xs) (sym is) (has_at xs i (get_or xs i x) (slice_get-get_or xs i x lt))

  -- a member of a prefix is a member of the list
  pub has_take : (x : X) → Has (take i xs) x → Has xs x
  has_take x h = subst (λ l. Has l x) (take-append-drop i xs) (has_left (take i xs) (drop i xs) x h)

  -- a prefix longer by one element
  pub take_item : (x : X) → i < length xs → x ≡ get_or xs i x → take (i + 1) xs ≡ take i xs ++ x ∷ []
  take_item x lt is = take_more xs i x lt ∙ ap (λ y. take i xs ++ y ∷ []) (sym is)
