-- The programs that have too many statements for the counter of a form.
use Rattle.std.specs.Prelude.{◌≡◌, ◌<◌, ◌-◌, ℕ}
use Rattle.kat_model.specs.Problems.{counted}
use Rattle.kat_model.specs.Stores.{modulus}
use Rattle.kat_model.specs.declared.expression.Width.{Width}
use Rattle.while_lang.specs.Programs.{ProgTree, statements}

-- the program has more statements than the greatest number of the width, and n is their number, or 2^64 - 1 if it is
-- larger
pub record HasTooManyStatements (w : Width) (p : ProgTree) (n : ℕ) : Type 0 where
  pub more : modulus w - 1 < statements p
  pub given : n ≡ counted (statements p)
