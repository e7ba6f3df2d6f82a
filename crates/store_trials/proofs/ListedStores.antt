-- Stores over a list of numbers, digit by digit.
use Rattle.std.proofs.Common.{◌≡◌, ◌<◌, ◌≤◌, ℕ, suc, ◌+◌, ◌*◌, ◌-◌, ◌%◌, ◌/◌, ◌^◌, List, [], ◌∷◌, ◌++◌, length, map, min, slice_index_or, sym, ap, ◌∙◌, append_assoc, add-one, arith}
use Rattle.std.specs.List.{range_with_len}
use Rattle.std.proofs.lemmas.List.{append-nil}
use Rattle.std.proofs.lemmas.List.FromFn.{map-range_with_len_more}
use Rattle.kat_model.specs.Stores.{Store}
use Rattle.store_trials.specs.StoreLists.{nth_store, store_count}

-- a loop that counts up has one turn fewer to go
pub one_less : (n k : ℕ) → k < n → n - k ≡ suc (n - (k + 1))
one_less n k lt = omega arith

pub none_left : (n k : ℕ) → n ≤ k → n - k ≡ 0
none_left n k le = omega arith

module _ (ns : List ℕ) (vars k : ℕ) where
  pub digit_more : (rest number : ℕ) (old new start : List ℕ) → k < vars → new ≡ old ++ number ∷ [] → number ≡ slice_index_or ns (rest % length ns) 0
      → old ++ nth_store ns (vars - k) rest ≡ start → new ++ nth_store ns (vars - (k + 1)) (rest / length ns) ≡ start
  digit_more rest number old new start lt pushed is so_far =
      let later : List ℕ = nth_store ns (vars - (k + 1)) (rest / length ns) in
      ap (λ (l : List ℕ). l ++ later) pushed
      ∙ append_assoc old (number ∷ []) later
      ∙ ap (λ (n : ℕ). old ++ (n ∷ later)) is
      ∙ ap (λ (v : ℕ). old ++ nth_store ns v rest) (sym (one_less vars k lt)) ∙ so_far

  pub digits_done : (rest : ℕ) (out start : List ℕ) → vars ≤ k → out ++ nth_store ns (vars - k) rest ≡ start → out ≡ start
  digits_done rest out start past so_far =
      sym (append-nil out) ∙ ap (λ (v : ℕ). out ++ nth_store ns v rest) (sym (none_left vars k past)) ∙ so_far

-- another variable
pub count_more : (numbers k count next : ℕ) → count ≡ store_count numbers k → next ≡ min 10000 (min (numbers * count) (2 ^ 64 - 1)) → next ≡ store_count numbers (k + 1)
count_more numbers k count next so_far is =
    let product : ℕ = numbers * count in
    let cut : min 10000 (min product (2 ^ 64 - 1)) ≡ min 10000 product = omega arith in
    is ∙ cut ∙ ap (λ (c : ℕ). min 10000 (numbers * c)) so_far ∙ ap (store_count numbers) (sym (add-one k))

-- another store
pub store_more : (ns : List ℕ) (vars i : ℕ) (old new : List Store) (s : Store) → new ≡ old ++ s ∷ [] → s ≡ nth_store ns vars i
    → old ≡ map (nth_store ns vars) (range_with_len 0 i) → new ≡ map (nth_store ns vars) (range_with_len 0 (i + 1))
store_more ns vars i old new s pushed is so_far =
    pushed
    ∙ ap (λ (t : Store). old ++ t ∷ []) is
    ∙ ap (λ (l : List Store). l ++ nth_store ns vars i ∷ []) so_far
    ∙ sym (map-range_with_len_more (nth_store ns vars) 0 i i (omega arith))

-- all stores, where their number is counted
pub stores_done : (ns : List ℕ) (vars i count : ℕ) (out : List Store) → i ≤ count → count ≤ i → out ≡ map (nth_store ns vars) (range_with_len 0 i) → out ≡ map (nth_store ns vars) (range_with_len 0 count)
stores_done ns vars i count out few many so_far = let same : i ≡ count = omega arith in so_far ∙ ap (λ (n : ℕ). map (nth_store ns vars) (range_with_len 0 n)) same
