-- Ascending lists with the same members are the same list.
use Rattle.std.proofs.Common.{◌≡◌, ◌↔◌, ◌<◌, ◌+◌, ◌⊎◌, ℕ, zero, suc, List, [], ◌∷◌, length, get_or, Contains, inl, inr, refl, sym, subst, arith}
use Rattle.std.specs.List.Sorted.{IsStrictlyIncreasing}
use Rattle.std.proofs.lemmas.List.Kept.{AllPairs-from_increasing}

tail_ascends : (x : ℕ) (xs : List ℕ) → IsStrictlyIncreasing (x ∷ xs) → IsStrictlyIncreasing xs
tail_ascends x xs h k lt =
    let next : suc k + 1 ≡ suc (k + 1) = omega arith in
    let far : suc k + 1 < length (x ∷ xs) = omega (arith, lt) in
    subst (λ (j : ℕ). get_or xs k 0 < get_or (x ∷ xs) j 0) next (h (suc k) far)

contains_first : (x : ℕ) (xs : List ℕ) → Contains (x ∷ xs) x
contains_first x xs = (0, omega arith, refl)

contains_later : (x : ℕ) (xs : List ℕ) (n : ℕ) → Contains xs n → Contains (x ∷ xs) n
contains_later x xs n (k, lt, is) = (suc k, omega (arith, lt), is)

contains_cases : (x : ℕ) (xs : List ℕ) (n : ℕ) → Contains (x ∷ xs) n → (x ≡ n) ⊎ Contains xs n
contains_cases x xs n (zero, lt, is) = inl is
contains_cases x xs n (suc k, lt, is) = inr (k, omega (arith, lt), is)

-- the first number is below each later one
above_first : (x : ℕ) (xs : List ℕ) → IsStrictlyIncreasing (x ∷ xs) → (n : ℕ) → Contains xs n → x < n
above_first x xs h n (k, lt, is) =
    let below : x < get_or xs k n = AllPairs-from_increasing (x ∷ xs) h 0 (suc k) n (omega arith) (omega (arith, lt)) in
    subst (λ (m : ℕ). x < m) is below

same_first : (x y : ℕ) (xs ys : List ℕ) → IsStrictlyIncreasing (x ∷ xs) → IsStrictlyIncreasing (y ∷ ys) → (y ≡ x) ⊎ Contains ys x → (x ≡ y) ⊎ Contains xs y → x ≡ y
same_first x y xs ys a b (inl e) there = sym e
same_first x y xs ys a b (inr h) (inl e) = e
same_first x y xs ys a b (inr h) (inr g) = let p = above_first y ys b x h in let q = above_first x xs a y g in absurd (omega (arith, p, q))

rest_contains : (x y : ℕ) (xs ys : List ℕ) → IsStrictlyIncreasing (x ∷ xs) → x ≡ y → (n : ℕ) → Contains xs n → (y ≡ n) ⊎ Contains ys n → Contains ys n
rest_contains x y xs ys a same n h (inl e) = let later = above_first x xs a n h in absurd (omega (arith, later, same, e))
rest_contains x y xs ys a same n h (inr rest) = rest

not_in_nothing : (n : ℕ) → Contains [] n → ⊥
not_in_nothing n (k, lt, is) = omega (arith, lt)

pub ascending_once : (xs ys : List ℕ) → IsStrictlyIncreasing xs → IsStrictlyIncreasing ys → ((n : ℕ) → Contains xs n ↔ Contains ys n) → xs ≡ ys
ascending_once [] [] a b same = refl
ascending_once [] (y ∷ ys) a b same = absurd (not_in_nothing y ((same y).1 (contains_first y ys)))
ascending_once (x ∷ xs) [] a b same = absurd (not_in_nothing x ((same x).0 (contains_first x xs)))
ascending_once (x ∷ xs) (y ∷ ys) a b same =
    let first : x ≡ y = same_first x y xs ys a b (contains_cases y ys x ((same x).0 (contains_first x xs))) (contains_cases x xs y ((same y).1 (contains_first y ys))) in
    let rest : xs ≡ ys =
    ascending_once xs ys (tail_ascends x xs a) (tail_ascends y ys b)
    (λ n. ((λ h. rest_contains x y xs ys a first n h (contains_cases y ys n ((same n).0 (contains_later x xs n h)))), (λ h. rest_contains y x ys xs b (sym first) n h (contains_cases x xs n ((same n).1 (contains_later y ys n h)))))) in
    λ i. first i ∷ rest i
