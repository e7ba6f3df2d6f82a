-- The answers of the checker.
use Rattle.std.specs.Prelude.{◌≡◌, ◌≢◌, ◌⊎◌, ℕ, ◌+◌, ◌<◌, ◌≤◌, List, [], length, take, None, Some, slice_get, Result, Ok, Err}
use Rattle.lrat_checker.specs.Propagation.{IsHintsReason}
use Rattle.lrat_checker.specs.Accepted.{Clauses, given, after_lines, AreRight, last_clause, IsAccepted}
use Rattle.lrat_checker.specs.declared.literal.Literal.{Literal}
use Rattle.lrat_checker.specs.declared.proof.Line.{Line}
use Rattle.lrat_checker.specs.declared.proof.Line.TheVariants.{Addition, Deletion}
use Rattle.lrat_checker.specs.declared.answer.Reason.{Reason}
use Rattle.lrat_checker.specs.declared.answer.Reason.TheVariants.{IdNotIncreasing, NoEmptyClause}
use Rattle.lrat_checker.specs.CnfParts.{CnfParts}
use Rattle.lrat_checker.specs.declared.fault.CnfFault.{CnfFault}
use Rattle.lrat_checker.specs.declared.fault.CnfFault.TheVariants.{NoMemory as NoRoomForCnf}
use Rattle.lrat_checker.specs.declared.fault.ProofFault.{ProofFault}
use Rattle.lrat_checker.specs.declared.fault.ProofFault.TheVariants.{NoMemory as NoRoomForProof}
use Rattle.lrat_checker.specs.declared.answer.Answer.{Answer}
use Rattle.lrat_checker.specs.declared.answer.Answer.TheVariants.{Accepted, Rejected}

-- why a line is wrong
abbrev pub IsReason : Clauses → Line → Reason → Type 0
IsReason c (Addition id clause hints resolvents) reason =
    ((id ≤ c.greatest) × (reason ≡ IdNotIncreasing)) ⊎ ((c.greatest < id) × IsHintsReason c.known clause hints resolvents reason)
IsReason c (Deletion ids) reason = ⊥

-- the line at this place is the first that is wrong, for this reason
pub record IsFirstWrong (clauses : List (List Literal)) (lines : List Line) (place : ℕ) (reason : Reason) : Type 0 where
  pub line : Line
  pub here : slice_get lines place ≡ Some line
  pub earlier : AreRight (given clauses) (take place lines)
  pub wrong : IsReason (after_lines (given clauses) (take place lines)) line reason

-- all lines are right, but the last clause is not empty
pub record LacksEmptyClause (clauses : List (List Literal)) (lines : List Line) (reason : Reason) : Type 0 where
  pub right : AreRight (given clauses) lines
  pub not_empty : last_clause None lines ≢ Some []
  pub named : reason ≡ NoEmptyClause

-- the answer is correct; lines are numbered from 1
abbrev pub Answers : List (List Literal) → List Line → Answer → Type 0
Answers clauses lines Accepted = IsAccepted clauses lines
Answers clauses lines (Rejected number reason) =
    ((place : ℕ) × (number ≡ place + 1) × IsFirstWrong clauses lines place reason) ⊎ ((number ≡ length lines) × LacksEmptyClause clauses lines reason)

-- the answer is this next one, or the fault, unless memory ran out
abbrev pub CnfGives : {X Y : Type 0} → Result Y CnfFault → Result X CnfFault → (X → Result Y CnfFault) → Type 0
CnfGives answer (Ok x) next = answer ≡ next x
CnfGives answer (Err NoRoomForCnf) next = Unit {0}
CnfGives answer (Err fault) next = answer ≡ Err fault

abbrev pub ProofGives : {X Y : Type 0} → Result Y ProofFault → Result X ProofFault → (X → Result Y ProofFault) → Type 0
ProofGives answer (Ok x) next = answer ≡ next x
ProofGives answer (Err NoRoomForProof) next = Unit {0}
ProofGives answer (Err fault) next = answer ≡ Err fault

-- the formula that a text denotes, or its first fault, unless memory ran out
abbrev pub ReadsCnf : Result CnfParts CnfFault → Result CnfParts CnfFault → Type 0
ReadsCnf answer result = CnfGives answer result (λ cnf. Ok cnf)

-- the proof that a text denotes, or its first fault, unless memory ran out
abbrev pub ReadsProof : Result (List Line) ProofFault → Result (List Line) ProofFault → Type 0
ReadsProof answer result = ProofGives answer result (λ lines. Ok lines)
