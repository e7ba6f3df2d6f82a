-- The instances of each axiom, by the form of the left side.
use Rattle.std.specs.Prelude.{◌≡◌, Option, Some}
use Rattle.kat_model.specs.Trees.{Term, zero, one, sum, product, star}
use Rattle.chain_rules.specs.Chains.{Equation, equation}
use Rattle.chain_rules.specs.declared.chain.Axiom.{Axiom}
use Rattle.chain_rules.specs.declared.chain.Axiom.TheVariants.{Assoc, Comm, Idem, Zero, SeqAssoc, OneLeft, OneRight, ZeroLeft, ZeroRight, DistLeft, DistRight, UnfoldLeft, UnfoldRight, Bool, Hyp, Lfp, Rfp}

abbrev pub FitsAssoc : Term → Term → Type 0
FitsAssoc (sum x (sum y z)) f = f ≡ sum (sum x y) z
FitsAssoc e f = ⊥

abbrev pub FitsComm : Term → Term → Type 0
FitsComm (sum x y) f = f ≡ sum y x
FitsComm e f = ⊥

abbrev pub FitsSeqAssoc : Term → Term → Type 0
FitsSeqAssoc (product x (product y z)) f = f ≡ product (product x y) z
FitsSeqAssoc e f = ⊥

abbrev pub FitsZeroLeft : Term → Term → Type 0
FitsZeroLeft (product x y) f = (x ≡ zero) × (f ≡ zero)
FitsZeroLeft e f = ⊥

abbrev pub FitsZeroRight : Term → Term → Type 0
FitsZeroRight (product x y) f = (y ≡ zero) × (f ≡ zero)
FitsZeroRight e f = ⊥

abbrev pub FitsDistLeft : Term → Term → Type 0
FitsDistLeft (product x (sum y z)) f = f ≡ sum (product x y) (product x z)
FitsDistLeft e f = ⊥

abbrev pub FitsDistRight : Term → Term → Type 0
FitsDistRight (product (sum x y) z) f = f ≡ sum (product x z) (product y z)
FitsDistRight e f = ⊥

abbrev pub FitsUnfoldLeft : Term → Term → Type 0
FitsUnfoldLeft (star x) f = f ≡ sum one (product x (star x))
FitsUnfoldLeft e f = ⊥

abbrev pub FitsUnfoldRight : Term → Term → Type 0
FitsUnfoldRight (star x) f = f ≡ sum one (product (star x) x)
FitsUnfoldRight e f = ⊥

-- the instances of the axioms without a premise, except `Bool` and `Hyp`
abbrev pub Fits : Axiom → Term → Term → Type 0
Fits Assoc e f = FitsAssoc e f
Fits Comm e f = FitsComm e f
Fits Idem e f = e ≡ sum f f
Fits Zero e f = e ≡ sum f zero
Fits SeqAssoc e f = FitsSeqAssoc e f
Fits OneLeft e f = e ≡ product one f
Fits OneRight e f = e ≡ product f one
Fits ZeroLeft e f = FitsZeroLeft e f
Fits ZeroRight e f = FitsZeroRight e f
Fits DistLeft e f = FitsDistLeft e f
Fits DistRight e f = FitsDistRight e f
Fits UnfoldLeft e f = FitsUnfoldLeft e f
Fits UnfoldRight e f = FitsUnfoldRight e f
Fits Bool e f = ⊥
Fits (Hyp k) e f = ⊥
Fits Lfp e f = ⊥
Fits Rfp e f = ⊥

-- the premise under which `p*.q + r` equals `r`, and the one for `q.p* + r`
abbrev pub FitsLfp : Option Equation → Term → Term → Type 0
FitsLfp premise (sum (product (star p) q) r) f = (f ≡ r) × (premise ≡ Some (equation (sum (sum q (product p r)) r) r))
FitsLfp premise e f = ⊥

abbrev pub FitsRfp : Option Equation → Term → Term → Type 0
FitsRfp premise (sum (product q (star p)) r) f = (f ≡ r) × (premise ≡ Some (equation (sum (sum q (product r p)) r) r))
FitsRfp premise e f = ⊥
