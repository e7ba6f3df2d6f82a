-- The number of hypotheses that do not count falls when more count.
use Rattle.std.proofs.Common.{◌≡◌, ◌↔◌, ◌<◌, ◌≤◌, ℕ, zero, suc, Bool, true, false, List, [], ◌∷◌, length, get_or, set, refl, arith}
use Rattle.std.specs.Bool.{IsTrue}
use Rattle.std.proofs.lemmas.Bool.{both_ways}
use Rattle.std.proofs.lemmas.List.{nil_from_length}
use Rattle.walk_under.specs.Counting.{uncounted, StillCount}

pub set_no_more : (bs : List Bool) (i : ℕ) → uncounted (set bs i true) ≤ uncounted bs
set_no_more [] i = omega arith
set_no_more (true ∷ bs) zero = omega arith
set_no_more (false ∷ bs) zero = omega arith
set_no_more (true ∷ bs) (suc i) = set_no_more bs i
set_no_more (false ∷ bs) (suc i) = let l = set_no_more bs i in omega arith

pub set_fewer : (bs : List Bool) (i : ℕ) → get_or bs i true ≡ false → uncounted (set bs i true) < uncounted bs
set_fewer [] i e = absurd cc
set_fewer (true ∷ bs) zero e = absurd cc
set_fewer (false ∷ bs) zero e = omega arith
set_fewer (true ∷ bs) (suc i) e = set_fewer bs i e
set_fewer (false ∷ bs) (suc i) e = let l = set_fewer bs i e in omega arith

-- what counted still counts when one more does
pub set_keeps : (bs : List Bool) (k : ℕ) → StillCount bs (set bs k true)
set_keeps [] k i e = e
set_keeps (b ∷ bs) zero zero e = refl
set_keeps (b ∷ bs) zero (suc i) e = e
set_keeps (b ∷ bs) (suc k) zero e = e
set_keeps (b ∷ bs) (suc k) (suc i) e = set_keeps bs k i e

-- a place that counts is one of the list
counted_within : (bs : List Bool) (i : ℕ) → get_or bs i false ≡ true → i < length bs
counted_within [] i e = absurd cc
counted_within (b ∷ bs) zero e = omega arith
counted_within (b ∷ bs) (suc i) e = let l = counted_within bs i e in omega arith

-- where all count, each that counted does
pub all_still_count : (before after : List Bool) → ((i : ℕ) → i < length before → get_or after i false ≡ true) → StillCount before after
all_still_count before after all i e = all i (counted_within before i e)

-- a hypothesis does not count
pub some_uncounted : (bs : List Bool) (i : ℕ) → get_or bs i true ≡ false → 0 < uncounted bs
some_uncounted bs i e = let l = set_fewer bs i e in omega arith

-- all count
pub none_uncounted : (bs : List Bool) → ((i : ℕ) → i < length bs → get_or bs i false ≡ true) → uncounted bs ≡ 0
none_uncounted [] each = refl
none_uncounted (true ∷ bs) each = none_uncounted bs (λ i l. each (suc i) (omega (arith, l)))
none_uncounted (false ∷ bs) each = absurd (let e = each 0 (omega arith) in cc)

-- ---- whether a list has items

module _ (xs : List ℕ) (some : Bool) (is : IsTrue some ↔ 0 < length xs) where
  pub no_items : some ≡ false → xs ≡ []
  no_items off = nil_from_length xs (zero_or (length xs) (λ l. both_ways some off (is.1 l)))
    where
      zero_or : (n : ℕ) → (0 < n → ⊥) → n ≡ 0
      zero_or zero none = refl
      zero_or (suc n) none = absurd (none (omega arith))

  pub some_items : some ≡ true → 0 < length xs
  some_items on = is.0 on
