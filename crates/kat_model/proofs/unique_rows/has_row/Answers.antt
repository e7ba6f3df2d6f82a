use Rattle.std.proofs.Common.{◌≡◌, ℕ, suc, ◌+◌, ◌||◌, not, Bool, true, false, cond, nat_lt, List, [], ◌∷◌, length, Some, None, refl, ap, ◌∙◌, arith}
use Rattle.std.proofs.lemmas.Bool.Decides.{nat_tests}
use Rattle.std.specs.List.{list_any, position, position_or_len}
use Rattle.std.specs.Option.{is_some}
use Rattle.kat_model.proofs.unique_rows.has_row.Goals as goal

-- A list has a place for a test exactly if some member passes it.
module _ {X : Type 0} (p : X → Bool) where
  first-or-later : (b : Bool) (n m : ℕ) → nat_lt (cond (not b) (1 + n) 0) (suc m) ≡ (b || nat_lt n m)
  first-or-later true n m = grind (arith, nat_tests)
  first-or-later false n m = grind (arith, nat_tests)

  within-is_any : (xs : List X) → nat_lt (position_or_len p xs) (length xs) ≡ list_any p xs
  within-is_any [] = refl
  within-is_any (x ∷ xs) = first-or-later (p x) (position_or_len p xs) (length xs) ∙ ap (λ b. p x || b) (within-is_any xs)

  is_some-cond : (b : Bool) (n : ℕ) → is_some (cond b (Some n) None) ≡ b
  is_some-cond true n = refl
  is_some-cond false n = refl

  is_some-position : (xs : List X) → is_some (position p xs) ≡ list_any p xs
  is_some-position xs = is_some-cond _ (position_or_len p xs) ∙ within-is_any xs

pub returns : goal.returns
returns g c = c.is_some.ensures ∙ ap is_some c.place_of.ensures ∙ is_some-position _ c.args.rows.now
