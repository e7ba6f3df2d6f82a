-- Moved numbers are ordered as two's complements.
use Rattle.std.proofs.Common.{◌≡◌, ◌<◌, ℕ, nat_lt, arith}
use Rattle.std.proofs.lemmas.Bool.Decides.{nat_tests}
use Rattle.kat_model.specs.Stores.{modulus}
use Rattle.kat_model.specs.declared.expression.Width.{Width}
use Rattle.kat_model.specs.declared.expression.Width.TheVariants.{W8, W16, W32, W64}
use Rattle.flow_model.specs.Interpretations.{biased}
use Rattle.flow_model.specs.SignedOrder.{signed_less}

pub biased_less : (w : Width) (m n : ℕ) → m < modulus w → n < modulus w → nat_lt (biased w m) (biased w n) ≡ signed_less w m n
biased_less W8 m n p q = grind (arith, nat_tests)
biased_less W16 m n p q = grind (arith, nat_tests)
biased_less W32 m n p q = grind (arith, nat_tests)
biased_less W64 m n p q = grind (arith, nat_tests)
