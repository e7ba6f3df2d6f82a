-- Lists that are the same in turn, as loops over both compare them.
use Rattle.std.proofs.Common.{◌≡◌, suc, Bool, true, false, ◌&&◌, List, [], ◌∷◌, length, map, refl, sym, ◌∙◌, ap}
use Rattle.std.proofs.lemmas.List.{nil_from_length}
use Rattle.std.specs.Cmp.Lexicographic.{pointwise}

and_false : (b : Bool) → (b && false) ≡ false
and_false true = refl
and_false false = refl

module _ {X Y : Type 0} (same : X → X → Bool) (f : Y → X) where
  pub unlike_lengths : (xs ys : List Y) → (length xs ≡ length ys → ⊥) → pointwise same (map f xs) (map f ys) ≡ false
  unlike_lengths [] [] other = absurd (other refl)
  unlike_lengths [] (y ∷ ys) other = refl
  unlike_lengths (x ∷ xs) [] other = refl
  unlike_lengths (x ∷ xs) (y ∷ ys) other =
      ap (λ b. same (f x) (f y) && b) (unlike_lengths xs ys (λ e. other (ap suc e))) ∙ and_false (same (f x) (f y))

  -- the next item of both lists
  module _ (left xs : List Y) (x : Y) (right ys : List Y) (y : Y) (result tested : Bool) (is_left : left ≡ x ∷ xs) (is_right : right ≡ y ∷ ys) (own : tested ≡ same (f x) (f y)) (so_far : pointwise same (map f left) (map f right) ≡ result) where
    opened : (tested && pointwise same (map f xs) (map f ys)) ≡ result
    opened =
        ap (λ b. b && pointwise same (map f xs) (map f ys)) own
        ∙ sym (ap (λ l. pointwise same (map f l) (map f right)) is_left ∙ ap (λ l. pointwise same (map f (x ∷ xs)) (map f l)) is_right)
        ∙ so_far

    pub item_differs : tested ≡ false → false ≡ result
    item_differs e = sym (ap (λ b. b && pointwise same (map f xs) (map f ys)) e) ∙ opened

    pub item_same : tested ≡ true → pointwise same (map f xs) (map f ys) ≡ result
    item_same e = sym (ap (λ b. b && pointwise same (map f xs) (map f ys)) e) ∙ opened

    pub lengths_kept : length left ≡ length right → length xs ≡ length ys
    lengths_kept e = let longer : suc (length xs) ≡ suc (length ys) = sym (ap length is_left) ∙ e ∙ ap length is_right in cc

  -- no item is left
  pub none_left : (left right : List Y) (result : Bool) → length left ≡ 0 → length left ≡ length right → pointwise same (map f left) (map f right) ≡ result → true ≡ result
  none_left left right result none e so_far =
      sym (ap (λ l. pointwise same (map f l) (map f right)) (nil_from_length left none) ∙ ap (λ l. pointwise same (map f []) (map f l)) (nil_from_length right (sym e ∙ none))) ∙ so_far

  pub none_right : (left right : List Y) (result : Bool) → length right ≡ 0 → length left ≡ length right → pointwise same (map f left) (map f right) ≡ result → true ≡ result
  none_right left right result none e so_far = none_left left right result (e ∙ none) e so_far
