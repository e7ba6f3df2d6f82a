-- Bytes without a line feed continue the last line.
use Rattle.std.proofs.Common.{◌≡◌, ◌+◌, ◌-◌, ◌≤◌, ℕ, Bool, true, false, not, cond, eqb, List, [], ◌∷◌, ◌++◌, length, drop, reverse, count_by, refl, sym, ap, ◌∙◌, arith}
use Rattle.std.specs.List.{prefix_len, suffix_len, after_last}
use Rattle.std.proofs.lemmas.List.{drop-append-le, length-reverse, reverse-append, length-append}
use Rattle.std.proofs.lemmas.List.Sums.{sum_by-append, sum_by-cons}
use Rattle.std.proofs.lemmas.List.Folds.{prefix_len-append}
use Rattle.std.proofs.lemmas.Bool.{cond-true, eq-eqb}

module _ (p : ℕ → Bool) where
  pub counts_both : (xs ys : List ℕ) → count_by p (xs ++ ys) ≡ count_by p xs + count_by p ys
  counts_both xs ys = sum_by-append (λ x. cond (p x) 1 0) xs ys

  pub counts_first : (y : ℕ) (ys : List ℕ) → count_by p (y ∷ ys) ≡ cond (p y) 1 0 + count_by p ys
  counts_first y ys = sum_by-cons (λ x. cond (p x) 1 0) y ys

  counts_reversed : (ys : List ℕ) → count_by p (reverse ys) ≡ count_by p ys
  counts_reversed [] = refl
  counts_reversed (y ∷ ys) = rw (reverse-append (y ∷ []) ys, counts_both (reverse ys) (y ∷ []), counts_reversed ys) omega (arith, counts_first y ys, counts_first y [])

  none_of : (n : ℕ) → 0 + n ≡ 0 → n ≡ 0
  none_of n e = omega arith

  one_is : (n : ℕ) → 1 + n ≡ 0 → ⊥
  one_is n e = omega arith

  counts_none : (y : ℕ) (ys : List ℕ) → count_by p (y ∷ ys) ≡ 0 → (p y ≡ false) × (count_by p ys ≡ 0)
  counts_none y ys e = by_test (p y) refl (sym (counts_first y ys) ∙ e)
    where
      by_test : (b : Bool) → p y ≡ b → cond b 1 0 + count_by p ys ≡ 0 → (p y ≡ false) × (count_by p ys ≡ 0)
      by_test true g h = absurd (one_is (count_by p ys) h)
      by_test false g h = (g, none_of (count_by p ys) h)

  passed_whole : (ys : List ℕ) → count_by p ys ≡ 0 → prefix_len (λ x. not (p x)) ys ≡ length ys
  passed_whole [] e = refl
  passed_whole (y ∷ ys) e = let h = counts_none y ys e in rw (h.0, passed_whole ys h.1) omega arith

  suffix_kept : (xs ys : List ℕ) → count_by p ys ≡ 0 → suffix_len (λ x. not (p x)) (xs ++ ys) ≡ length ys + suffix_len (λ x. not (p x)) xs
  suffix_kept xs ys e =
      let q = λ (x : ℕ). not (p x) in
      ap (prefix_len q) (reverse-append xs ys) ∙ prefix_len-append q (reverse ys) (reverse xs)
      ∙ cond-true (eqb (prefix_len q (reverse ys)) (length (reverse ys))) (length (reverse ys) + prefix_len q (reverse xs)) (prefix_len q (reverse ys))
      (eq-eqb (prefix_len q (reverse ys)) (length (reverse ys)) (passed_whole (reverse ys) (counts_reversed ys ∙ e)))
      ∙ ap (λ n. n + suffix_len q xs) (length-reverse ys)

  start_kept : (n m s : ℕ) → n + m - (m + s) ≡ n - s
  start_kept n m s = omega arith

  within : (n s : ℕ) → n - s ≤ n
  within n s = omega arith

  pub last_continued : (xs ys : List ℕ) → count_by p ys ≡ 0 → after_last p (xs ++ ys) ≡ after_last p xs ++ ys
  last_continued xs ys e =
      let q = λ (x : ℕ). not (p x) in
      ap (λ n. drop (n - suffix_len q (xs ++ ys)) (xs ++ ys)) (length-append xs ys)
      ∙ ap (λ s. drop (length xs + length ys - s) (xs ++ ys)) (suffix_kept xs ys e)
      ∙ ap (λ n. drop n (xs ++ ys)) (start_kept (length xs) (length ys) (suffix_len q xs))
      ∙ drop-append-le (length xs - suffix_len q xs) xs ys (within (length xs) (suffix_len q xs))

  start_is : (n s len : ℕ) → n + s ≡ len → n ≡ len - s
  start_is n s len e = omega arith

  pub from_start : (xs : List ℕ) (n : ℕ) → n + suffix_len (λ x. not (p x)) xs ≡ length xs → drop n xs ≡ after_last p xs
  from_start xs n e = ap (λ k. drop k xs) (start_is n (suffix_len (λ x. not (p x)) xs) (length xs) e)
