-- Chains encoded as trees of numbers, by which the logic distinguishes the values of a model.
use Rattle.std.specs.Prelude.{◌≡◌, refl, ℕ, List, [], ◌∷◌, slice_index_or}
use Rattle.std.proofs.Common.{ap}
use base.Stored.{Gv, gnil, gnum, gcons}
use denote.Struct.Codes.{itself}
use Rattle.std.specs.Coded.{Coded, code_by}
use Rattle.kat_model.specs.Codes.{term_code, coded_as_term, term_of_code}
use Rattle.chain_rules.specs.Chains.{ChainTree, alone, equal_by, equal_by_inner}
use Rattle.chain_rules.specs.declared.chain.Axiom.{Axiom}
use Rattle.chain_rules.specs.declared.chain.Axiom.TheVariants.{Assoc, Comm, Idem, Zero, SeqAssoc, OneLeft, OneRight, ZeroLeft, ZeroRight, DistLeft, DistRight, UnfoldLeft, UnfoldRight, Bool, Hyp, Lfp, Rfp}

-- the axioms without a number, in order of their codes
abbrev pub plain_axioms : List Axiom
plain_axioms = Assoc ∷ Comm ∷ Idem ∷ Zero ∷ SeqAssoc ∷ OneLeft ∷ OneRight ∷ ZeroLeft ∷ ZeroRight ∷ DistLeft ∷ DistRight ∷ UnfoldLeft ∷ UnfoldRight ∷ Bool ∷ Lfp ∷ Rfp ∷ []

abbrev pub axiom_code : Axiom → Gv
axiom_code Assoc = gnum 0
axiom_code Comm = gnum 1
axiom_code Idem = gnum 2
axiom_code Zero = gnum 3
axiom_code SeqAssoc = gnum 4
axiom_code OneLeft = gnum 5
axiom_code OneRight = gnum 6
axiom_code ZeroLeft = gnum 7
axiom_code ZeroRight = gnum 8
axiom_code DistLeft = gnum 9
axiom_code DistRight = gnum 10
axiom_code UnfoldLeft = gnum 11
axiom_code UnfoldRight = gnum 12
axiom_code Bool = gnum 13
axiom_code Lfp = gnum 14
axiom_code Rfp = gnum 15
axiom_code (Hyp k) = gcons gnil (gnum k)

abbrev pub coded_as_axiom : Gv → Axiom
coded_as_axiom gnil = Assoc
coded_as_axiom (gnum n) = slice_index_or plain_axioms n Assoc
coded_as_axiom (gcons x (gnum k)) = Hyp k
coded_as_axiom (gcons x y) = Assoc

pub axiom_of_code : (rule : Axiom) → coded_as_axiom (axiom_code rule) ≡ rule
axiom_of_code Assoc = refl
axiom_of_code Comm = refl
axiom_of_code Idem = refl
axiom_of_code Zero = refl
axiom_of_code SeqAssoc = refl
axiom_of_code OneLeft = refl
axiom_of_code OneRight = refl
axiom_of_code ZeroLeft = refl
axiom_of_code ZeroRight = refl
axiom_of_code DistLeft = refl
axiom_of_code DistRight = refl
axiom_of_code UnfoldLeft = refl
axiom_of_code UnfoldRight = refl
axiom_of_code Bool = refl
axiom_of_code Lfp = refl
axiom_of_code Rfp = refl
axiom_of_code (Hyp k) = refl

abbrev pub path_code : List ℕ → Gv
path_code [] = gnil
path_code (k ∷ path) = gcons (gnum k) (path_code path)

abbrev pub coded_as_path : Gv → List ℕ
coded_as_path gnil = []
coded_as_path (gnum n) = []
coded_as_path (gcons (gnum k) v) = k ∷ coded_as_path v
coded_as_path (gcons x v) = []

pub path_of_code : (path : List ℕ) → coded_as_path (path_code path) ≡ path
path_of_code [] = refl
path_of_code (k ∷ path) = ap (λ (ks : List ℕ). k ∷ ks) (path_of_code path)

abbrev pub chain_code : ChainTree → Gv
chain_code (alone e) = gcons gnil (term_code e)
chain_code (equal_by e rule path rest) =
    gcons (gcons (gnum 0) (gcons (term_code e) (gcons (axiom_code rule) (path_code path)))) (chain_code rest)
chain_code (equal_by_inner e rule path inner rest) =
    gcons (gcons (gcons (chain_code inner) (term_code e)) (gcons (axiom_code rule) (path_code path))) (chain_code rest)

abbrev pub coded_as_chain : Gv → ChainTree
coded_as_chain (gcons (gcons (gnum n) (gcons e (gcons rule path))) rest) = equal_by (coded_as_term e) (coded_as_axiom rule) (coded_as_path path) (coded_as_chain rest)
coded_as_chain (gcons (gcons (gcons inner e) (gcons rule path)) rest) =
    equal_by_inner (coded_as_term e) (coded_as_axiom rule) (coded_as_path path) (coded_as_chain inner) (coded_as_chain rest)
coded_as_chain (gcons x e) = alone (coded_as_term e)
coded_as_chain gnil = alone (coded_as_term gnil)
coded_as_chain (gnum n) = alone (coded_as_term gnil)

pub chain_of_code : (c : ChainTree) → coded_as_chain (chain_code c) ≡ c
chain_of_code (alone e) = ap alone (term_of_code e)
chain_of_code (equal_by e rule path rest) = rw (term_of_code e, axiom_of_code rule, path_of_code path, chain_of_code rest) refl
chain_of_code (equal_by_inner e rule path inner rest) =
    rw (term_of_code e, axiom_of_code rule, path_of_code path, chain_of_code inner, chain_of_code rest) refl

abbrev pub coded_chain : Coded ChainTree
coded_chain = code_by Gv itself chain_code coded_as_chain chain_of_code
