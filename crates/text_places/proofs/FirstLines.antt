-- What is before the first byte that passes, by its position.
use Rattle.std.proofs.Common.{◌≡◌, ℕ, Bool, true, false, cond, nat_lt, List, length, take, position, Some, None, refl, sym, ap}
use Rattle.std.specs.List.{position_or_len, before_first}
use Rattle.std.proofs.lemmas.Bool.{ltb-false}
use Rattle.std.proofs.lemmas.Option.{cond_some}
use Rattle.std.proofs.lemmas.List.{take_all}

module _ (p : ℕ → Bool) (xs : List ℕ) where
  pub some_before : (i : ℕ) → position p xs ≡ Some i → take i xs ≡ before_first p xs
  some_before i e = ap (λ n. take n xs) (sym (cond_some (nat_lt (position_or_len p xs) (length xs)) (position_or_len p xs) i e).1)

  no_less : (b : Bool) (n : ℕ) → cond b (Some n) None ≡ None → b ≡ false
  no_less true n e = absurd cc
  no_less false n e = refl

  pub none_before : position p xs ≡ None → xs ≡ before_first p xs
  none_before e =
      let h = no_less (nat_lt (position_or_len p xs) (length xs)) (position_or_len p xs) e in
      sym (take_all (position_or_len p xs) xs (ltb-false (position_or_len p xs) (length xs) h))
