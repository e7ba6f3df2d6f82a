-- An equation fits an axiom by the form of its left side if and only if it is an instance of the axiom.
use Rattle.std.proofs.Common.{◌≡◌, ◌↔◌, ℕ, Option, None, Some, refl, ap}
use Rattle.kat_model.specs.Trees.{Term, zero, sum, product, star}
use Rattle.kat_model.specs.Problems.{ProblemParts}
use Rattle.chain_rules.specs.Chains.{Equation, equation}
use Rattle.chain_rules.specs.Axioms.{axiom_equation, axiom_premise, IsOverTerms, IsInstance}
use Rattle.chain_rules.specs.Working.Fits.{FitsAssoc, FitsComm, FitsSeqAssoc, FitsZeroLeft, FitsZeroRight, FitsDistLeft, FitsDistRight, FitsUnfoldLeft, FitsUnfoldRight, Fits, FitsLfp, FitsRfp}
use Rattle.chain_rules.specs.declared.chain.Axiom.{Axiom}
use Rattle.chain_rules.specs.declared.chain.Axiom.TheVariants.{Assoc, Comm, Idem, Zero, SeqAssoc, OneLeft, OneRight, ZeroLeft, ZeroRight, DistLeft, DistRight, UnfoldLeft, UnfoldRight, Bool, Hyp, Lfp, Rfp}

-- an instance from three terms for which the sides and the premise are those of the axiom
over : (rule : Axiom) (inner : Option Equation) (e f x y z : Term) → axiom_equation rule x y z ≡ Some (equation e f) → axiom_premise rule x y z ≡ inner → IsOverTerms rule inner (equation e f)
over rule inner e f x y z s p = record { x = x; y = y; z = z; sides = s; premise = p }

-- the sides of equal equations
abbrev left_of : Option Equation → Term
left_of None = zero
left_of (Some s) = s.left

abbrev right_of : Option Equation → Term
right_of None = zero
right_of (Some s) = s.right

left_same : (a b e f : Term) → Some (equation a b) ≡ Some (equation e f) → a ≡ e
left_same a b e f h = ap left_of h

right_same : (a b e f : Term) → Some (equation a b) ≡ Some (equation e f) → b ≡ f
right_same a b e f h = ap right_of h

assoc_over : (e f : Term) → FitsAssoc e f → IsOverTerms Assoc None (equation e f)
assoc_over (sum x (sum y z)) f h = over Assoc None _ f x y z (rw h refl) refl
assoc_over e f h = absurd h

comm_over : (e f : Term) → FitsComm e f → IsOverTerms Comm None (equation e f)
comm_over (sum x y) f h = over Comm None _ f x y y (rw h refl) refl
comm_over e f h = absurd h

seq_assoc_over : (e f : Term) → FitsSeqAssoc e f → IsOverTerms SeqAssoc None (equation e f)
seq_assoc_over (product x (product y z)) f h = over SeqAssoc None _ f x y z (rw h refl) refl
seq_assoc_over e f h = absurd h

zero_left_over : (e f : Term) → FitsZeroLeft e f → IsOverTerms ZeroLeft None (equation e f)
zero_left_over (product x y) f h = over ZeroLeft None _ f y y y (rw (h.0, h.1) refl) refl
zero_left_over e f h = absurd h

zero_right_over : (e f : Term) → FitsZeroRight e f → IsOverTerms ZeroRight None (equation e f)
zero_right_over (product x y) f h = over ZeroRight None _ f x x x (rw (h.0, h.1) refl) refl
zero_right_over e f h = absurd h

dist_left_over : (e f : Term) → FitsDistLeft e f → IsOverTerms DistLeft None (equation e f)
dist_left_over (product x (sum y z)) f h = over DistLeft None _ f x y z (rw h refl) refl
dist_left_over e f h = absurd h

dist_right_over : (e f : Term) → FitsDistRight e f → IsOverTerms DistRight None (equation e f)
dist_right_over (product (sum x y) z) f h = over DistRight None _ f x y z (rw h refl) refl
dist_right_over e f h = absurd h

unfold_left_over : (e f : Term) → FitsUnfoldLeft e f → IsOverTerms UnfoldLeft None (equation e f)
unfold_left_over (star x) f h = over UnfoldLeft None _ f x x x (rw h refl) refl
unfold_left_over e f h = absurd h

unfold_right_over : (e f : Term) → FitsUnfoldRight e f → IsOverTerms UnfoldRight None (equation e f)
unfold_right_over (star x) f h = over UnfoldRight None _ f x x x (rw h refl) refl
unfold_right_over e f h = absurd h

lfp_over : (inner : Option Equation) (e f : Term) → FitsLfp inner e f → IsOverTerms Lfp inner (equation e f)
lfp_over inner (sum (product (star p) q) r) f h = over Lfp inner _ f p q r (rw h.0 refl) (rw h.1 refl)
lfp_over inner e f h = absurd h

rfp_over : (inner : Option Equation) (e f : Term) → FitsRfp inner e f → IsOverTerms Rfp inner (equation e f)
rfp_over inner (sum (product q (star p)) r) f h = over Rfp inner _ f p q r (rw h.0 refl) (rw h.1 refl)
rfp_over inner e f h = absurd h

over_lfp : (inner : Option Equation) (e f : Term) → IsOverTerms Lfp inner (equation e f) → FitsLfp inner e f
over_lfp inner e f h =
    let l : sum (product (star h.x) h.y) h.z ≡ e = left_same _ h.z e f h.sides in
    let r : h.z ≡ f = right_same (sum (product (star h.x) h.y) h.z) h.z e f h.sides in
    rw (← l) (rw r refl, rw (← h.premise) refl)

over_rfp : (inner : Option Equation) (e f : Term) → IsOverTerms Rfp inner (equation e f) → FitsRfp inner e f
over_rfp inner e f h =
    let l : sum (product h.y (star h.x)) h.z ≡ e = left_same _ h.z e f h.sides in
    let r : h.z ≡ f = right_same (sum (product h.y (star h.x)) h.z) h.z e f h.sides in
    rw (← l) (rw r refl, rw (← h.premise) refl)

-- the axioms without a premise
fits_over : (rule : Axiom) (e f : Term) → Fits rule e f → IsOverTerms rule None (equation e f)
fits_over Assoc e f h = assoc_over e f h
fits_over Comm e f h = comm_over e f h
fits_over Idem e f h = over Idem None e f f f f (rw h refl) refl
fits_over Zero e f h = over Zero None e f f f f (rw h refl) refl
fits_over SeqAssoc e f h = seq_assoc_over e f h
fits_over OneLeft e f h = over OneLeft None e f f f f (rw h refl) refl
fits_over OneRight e f h = over OneRight None e f f f f (rw h refl) refl
fits_over ZeroLeft e f h = zero_left_over e f h
fits_over ZeroRight e f h = zero_right_over e f h
fits_over DistLeft e f h = dist_left_over e f h
fits_over DistRight e f h = dist_right_over e f h
fits_over UnfoldLeft e f h = unfold_left_over e f h
fits_over UnfoldRight e f h = unfold_right_over e f h
fits_over Bool e f h = absurd h
fits_over (Hyp k) e f h = absurd h
fits_over Lfp e f h = absurd h
fits_over Rfp e f h = absurd h

-- an equation equal to one that fits an axiom fits it too
sides_fit : (rule : Axiom) (e f a b : Term) → Some (equation a b) ≡ Some (equation e f) → Fits rule a b → Fits rule e f
sides_fit rule e f a b h g =
    let l : a ≡ e = left_same a b e f h in
    let r : b ≡ f = right_same a b e f h in
    rw (← l, ← r) g

over_fits : (rule : Axiom) (inner : Option Equation) (e f : Term) (h : IsOverTerms rule inner (equation e f)) → axiom_premise rule h.x h.y h.z ≡ None → Fits rule e f
over_fits Assoc inner e f h n = sides_fit Assoc e f _ _ h.sides refl
over_fits Comm inner e f h n = sides_fit Comm e f _ _ h.sides refl
over_fits Idem inner e f h n = sides_fit Idem e f _ _ h.sides refl
over_fits Zero inner e f h n = sides_fit Zero e f _ _ h.sides refl
over_fits SeqAssoc inner e f h n = sides_fit SeqAssoc e f _ _ h.sides refl
over_fits OneLeft inner e f h n = sides_fit OneLeft e f _ _ h.sides refl
over_fits OneRight inner e f h n = sides_fit OneRight e f _ _ h.sides refl
over_fits ZeroLeft inner e f h n = sides_fit ZeroLeft e f _ _ h.sides (refl, refl)
over_fits ZeroRight inner e f h n = sides_fit ZeroRight e f _ _ h.sides (refl, refl)
over_fits DistLeft inner e f h n = sides_fit DistLeft e f _ _ h.sides refl
over_fits DistRight inner e f h n = sides_fit DistRight e f _ _ h.sides refl
over_fits UnfoldLeft inner e f h n = sides_fit UnfoldLeft e f _ _ h.sides refl
over_fits UnfoldRight inner e f h n = sides_fit UnfoldRight e f _ _ h.sides refl
over_fits Bool inner e f h n = absurd cc
over_fits (Hyp k) inner e f h n = absurd cc
over_fits Lfp inner e f h n = absurd cc
over_fits Rfp inner e f h n = absurd cc

pub lfp_instances : (q : ProblemParts) (inner : Option Equation) (e f : Term) → FitsLfp inner e f ↔ IsInstance q Lfp inner (equation e f)
lfp_instances q inner e f = (lfp_over inner e f, over_lfp inner e f)

pub rfp_instances : (q : ProblemParts) (inner : Option Equation) (e f : Term) → FitsRfp inner e f ↔ IsInstance q Rfp inner (equation e f)
rfp_instances q inner e f = (rfp_over inner e f, over_rfp inner e f)

plain_both : (rule : Axiom) (e f : Term) → Fits rule e f ↔ IsOverTerms rule None (equation e f)
plain_both rule e f = (fits_over rule e f, λ h. over_fits rule None e f h h.premise)

-- the axioms other than `Bool` and `Hyp`, without an inner chain
pub plain_instances : (q : ProblemParts) (rule : Axiom) (e f : Term) → (rule ≡ Bool → ⊥) → ((k : ℕ) → rule ≡ Hyp k → ⊥) → Fits rule e f ↔ IsInstance q rule None (equation e f)
plain_instances q Assoc e f b h = plain_both Assoc e f
plain_instances q Comm e f b h = plain_both Comm e f
plain_instances q Idem e f b h = plain_both Idem e f
plain_instances q Zero e f b h = plain_both Zero e f
plain_instances q SeqAssoc e f b h = plain_both SeqAssoc e f
plain_instances q OneLeft e f b h = plain_both OneLeft e f
plain_instances q OneRight e f b h = plain_both OneRight e f
plain_instances q ZeroLeft e f b h = plain_both ZeroLeft e f
plain_instances q ZeroRight e f b h = plain_both ZeroRight e f
plain_instances q DistLeft e f b h = plain_both DistLeft e f
plain_instances q DistRight e f b h = plain_both DistRight e f
plain_instances q UnfoldLeft e f b h = plain_both UnfoldLeft e f
plain_instances q UnfoldRight e f b h = plain_both UnfoldRight e f
plain_instances q Lfp e f b h = plain_both Lfp e f
plain_instances q Rfp e f b h = plain_both Rfp e f
plain_instances q Bool e f b h = absurd (b refl)
plain_instances q (Hyp k) e f b h = absurd (h k refl)
