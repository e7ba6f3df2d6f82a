-- An element read at an index of a list, and its image in the mapped list.
use Rattle.std.proofs.Common.{◌≡◌, ℕ, ◌<◌, List, map, length, get_or, All, slice_get, Some, refl, sym, ap, ◌∙◌, subst}
use Rattle.std.specs.Option.{option_map}
use Rattle.std.proofs.lemmas.List.{get_or-map, length-map}
use Rattle.std.proofs.lemmas.Option.{slice_get_read, slice_get-map}

module _ {X Y : Type 0} (f : X → Y) (xs : List X) (i : ℕ) (x : X) (lt : i < length xs) (is : x ≡ get_or xs i x) where
  pub map_read : slice_get (map f xs) i ≡ Some (f x)
  map_read = slice_get-map f xs i ∙ ap (option_map f) (slice_get_read xs (length xs) i x refl lt is)

  pub map_read_all : (P : Y → Type 0) → All P (map f xs) → P (f x)
  map_read_all P all = subst P (get_or-map f xs i x (f x) lt ∙ ap f (sym is)) (all i (f x) (rw length-map lt))
