-- Texts read word by word.
use Rattle.std.proofs.Common.{◌≡◌, ℕ, List, ◌∷◌, sym, ap, ◌∙◌, Result, Ok, Err}
use Rattle.lrat_checker.specs.Words.{WordParts, WordFormat, and_then, read_from}
use Rattle.lrat_checker.specs.Answers.{CnfGives, ProofGives}
use Rattle.lrat_checker.specs.declared.fault.CnfFault.{CnfFault}
use Rattle.lrat_checker.specs.declared.fault.CnfFault.TheVariants.{NoMemory as NoRoomForCnf, Header, TooLarge, NotLiteral as NotCnfLiteral, UnknownVariable, Unended as UnendedCnf, WrongCount}
use Rattle.lrat_checker.specs.declared.fault.ProofFault.{ProofFault}
use Rattle.lrat_checker.specs.declared.fault.ProofFault.TheVariants.{NoMemory as NoRoomForProof, NotId, NotLiteral, NotHint, Unended}

module _ {X Y Z W : Type 0} where
  -- a fault of a part is a fault of the whole, unless memory ran out
  pub cnf_fault_passes : (part : Result Y CnfFault) (whole : Result W CnfFault) (fault : CnfFault) (next : X → Result Y CnfFault) (last : Z → Result W CnfFault) → (part ≡ Err fault → whole ≡ Err fault) → CnfGives part (Err fault) next → CnfGives whole (Err fault) last
  cnf_fault_passes part whole NoRoomForCnf next last f h = tt
  cnf_fault_passes part whole (Header n) next last f h = f h
  cnf_fault_passes part whole (TooLarge n) next last f h = f h
  cnf_fault_passes part whole (NotCnfLiteral n) next last f h = f h
  cnf_fault_passes part whole (UnknownVariable n) next last f h = f h
  cnf_fault_passes part whole (UnendedCnf n) next last f h = f h
  cnf_fault_passes part whole (WrongCount n) next last f h = f h

  pub proof_fault_passes : (part : Result Y ProofFault) (whole : Result W ProofFault) (fault : ProofFault) (next : X → Result Y ProofFault) (last : Z → Result W ProofFault) → (part ≡ Err fault → whole ≡ Err fault) → ProofGives part (Err fault) next → ProofGives whole (Err fault) last
  proof_fault_passes part whole NoRoomForProof next last f h = tt
  proof_fault_passes part whole (NotId n) next last f h = f h
  proof_fault_passes part whole (NotLiteral n) next last f h = f h
  proof_fault_passes part whole (NotHint n) next last f h = f h
  proof_fault_passes part whole (Unended n) next last f h = f h

module _ {D V F : Type 0} (f : WordFormat D V F) (d : D) (left ws : List WordParts) (w : WordParts) (last : ℕ) (answer : Result V F) where
  -- the words after one that is read
  pub read_more : left ≡ w ∷ ws → read_from f d left last ≡ answer → (more : D) → f.with_word d w ≡ Ok more → read_from f more ws last ≡ answer
  read_more e h more g =
      let after : Result D F → Result V F = λ r. and_then r (λ m. read_from f m ws last) in
      sym (ap after g) ∙ sym (ap (λ l. read_from f d l last) e) ∙ h

  -- the fault of a word
  pub read_fault : left ≡ w ∷ ws → read_from f d left last ≡ answer → (fault : F) → f.with_word d w ≡ Err fault → answer ≡ Err fault
  read_fault e h fault g =
      let after : Result D F → Result V F = λ r. and_then r (λ m. read_from f m ws last) in
      sym h ∙ ap (λ l. read_from f d l last) e ∙ ap after g
