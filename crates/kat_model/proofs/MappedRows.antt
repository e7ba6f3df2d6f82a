-- Tables of values of the program as tables of what these values are seen as.
use Rattle.std.proofs.Common.{◌≡◌, ℕ, ◌+◌, Bool, true, false, not, ◌||◌, nat_lt, cond, List, [], ◌∷◌, ◌++◌, length, map, Some, None, if◌then◌else◌, refl, sym, ◌∙◌, ap}
use mathlib.Core.Path.{ap₂}
use Rattle.std.specs.List.{list_any, position, prefix_len}
use Rattle.std.proofs.lemmas.List.{length-map, map_push}
use Rattle.kat_model.specs.UniqueRows.{with_new_within}

module _ {X Y : Type 0} (f : X → Y) where
  any-map : (p : Y → Bool) (xs : List X) → list_any p (map f xs) ≡ list_any (λ x. p (f x)) xs
  any-map p [] = refl
  any-map p (x ∷ xs) = ap (λ b. p (f x) || b) (any-map p xs)

  prefix-map : (p : Y → Bool) (xs : List X) → prefix_len p (map f xs) ≡ prefix_len (λ x. p (f x)) xs
  prefix-map p [] = refl
  prefix-map p (x ∷ xs) = ap (λ n. cond (p (f x)) (1 + n) 0) (prefix-map p xs)

  -- the place of a value is that of what it is seen as
  pub position-map : (p : Y → Bool) (xs : List X) → position (λ x. p (f x)) xs ≡ position p (map f xs)
  position-map p xs =
      sym
      (ap₂ (λ i n. cond (nat_lt i n) (Some i) None) (prefix-map (λ y. not (p y)) xs) (length-map xs f))

  module _ (same : Y → Y → Bool) (n : ℕ) where
    same_test : (xs : List X) (x : X) → (nat_lt n (length (map f xs)) || list_any (same (f x)) (map f xs)) ≡ (nat_lt n (length xs) || list_any (λ y. same (f x) (f y)) xs)
    same_test xs x = ap₂ (λ i b. nat_lt n i || b) (length-map xs f) (any-map (same (f x)) xs)

    -- a row that is left out: the table has it already or has more than n rows
    pub row_kept : (xs : List X) (x : X) (ys : List X) (b : Bool) → ys ≡ xs → b ≡ (nat_lt n (length ys) || list_any (λ y. same (f x) (f y)) ys) → b ≡ true → map f xs ≡ with_new_within n same (map f xs) (f x)
    row_kept xs x ys b e m t =
        sym (ap (λ v. if v then map f xs else map f xs ++ f x ∷ []) (same_test xs x ∙ sym (ap (λ zs. nat_lt n (length zs) || list_any (λ y. same (f x) (f y)) zs) e) ∙ sym m ∙ t))

    -- a row that is added, as a copy
    pub row_added : (xs : List X) (x : X) (ys new : List X) (copy : X) (b : Bool) → ys ≡ xs → b ≡ (nat_lt n (length ys) || list_any (λ y. same (f x) (f y)) ys) → b ≡ false → new ≡ xs ++ copy ∷ [] → f copy ≡ f x →
        map f new ≡ with_new_within n same (map f xs) (f x)
    row_added xs x ys new copy b e m t pushed copied =
        ap (map f) pushed ∙ map_push f xs copy ∙ ap (λ y. map f xs ++ y ∷ []) copied
        ∙ sym (ap (λ v. if v then map f xs else map f xs ++ f x ∷ []) (same_test xs x ∙ sym (ap (λ zs. nat_lt n (length zs) || list_any (λ y. same (f x) (f y)) zs) e) ∙ sym m ∙ t))
