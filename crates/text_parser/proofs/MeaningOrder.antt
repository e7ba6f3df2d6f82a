-- Only equal meanings compare as equal.
use Rattle.std.proofs.Common.{◌≡◌, ℕ, true, ap}
use Rattle.std.specs.Ordering.{nat_cmp, eq_by_cmp}
use Rattle.std.specs.FinMap.{nat_cmp-IsAntisymmetric}
use Rattle.std.specs.Cmp.{Equal-is}
use Rattle.std.proofs.lemmas.Bool.{false≢true}
use Rattle.text_parser.specs.declared.meaning.Meaning.{Meaning}
use Rattle.text_parser.specs.declared.meaning.Meaning.TheVariants.{Test, Action, Var, Term, Prog}
use Rattle.text_parser.specs.contracts.meaning.MeaningOrd.TheImpl.{ghosts}

same_number : (i k : ℕ) → eq_by_cmp nat_cmp i k ≡ true → i ≡ k
same_number i k e = nat_cmp-IsAntisymmetric i k ((Equal-is (nat_cmp i k)).0 e)

pub same_meaning : (m n : Meaning) → eq_by_cmp ghosts.cmp m n ≡ true → m ≡ n
same_meaning (Test i) (Test k) e = ap Test (same_number i k e)
same_meaning (Action i) (Action k) e = ap Action (same_number i k e)
same_meaning (Var i) (Var k) e = ap Var (same_number i k e)
same_meaning (Term i) (Term k) e = ap Term (same_number i k e)
same_meaning (Prog i) (Prog k) e = ap Prog (same_number i k e)
same_meaning m n e = absurd (false≢true e)
