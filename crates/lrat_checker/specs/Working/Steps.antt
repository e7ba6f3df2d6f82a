-- Unit propagation as the program does it.
use Rattle.std.specs.Prelude.{◌≡◌, ◌==◌, ℕ, Bool, List, [], ◌∷◌, ◌++◌, length, Option, None, Some}
use Rattle.lrat_checker.specs.Literals.{opposite}
use Rattle.lrat_checker.specs.Propagation.{Entry, absent, deleted, present, IsFalsified, IsUnit, IsOpen, LeadsToConflict, IsHintsReason}
use Rattle.lrat_checker.specs.Accepted.{Clauses, IsRight}
use Rattle.lrat_checker.specs.Answers.{IsReason}
use Rattle.lrat_checker.specs.declared.literal.Literal.{Literal}
use Rattle.lrat_checker.specs.declared.proof.Line.{Line}
use Rattle.lrat_checker.specs.declared.proof.Line.TheVariants.{Addition, Deletion}
use Rattle.lrat_checker.specs.declared.answer.Reason.{Reason}
use Rattle.lrat_checker.specs.declared.answer.Reason.TheVariants.{UnknownHint, DeletedHint, HintNotUnit}
use Rattle.lrat_checker.specs.declared.status.Status.{Status}
use Rattle.lrat_checker.specs.declared.status.Status.TheVariants.{AllFalse, OneOpen, TwoOpen}
use Rattle.lrat_checker.specs.declared.propagation.HintStep.{HintStep}
use Rattle.lrat_checker.specs.declared.propagation.HintStep.TheVariants.{Conflict, Propagated, Fails}

-- the status of a clause whose literals are these
abbrev pub IsStatus : List Literal → List Literal → Status → Type 0
IsStatus falses clause AllFalse = IsFalsified falses clause
IsStatus falses clause (OneOpen l) = IsUnit falses clause l
IsStatus falses clause TwoOpen = IsOpen falses clause

-- the clause of the hint is unit, and its literal becomes true
pub record Propagates (known : ℕ → Entry) (falses : List Literal) (hint : ℕ) (more : List Literal) : Type 0 where
  pub clause : List Literal
  pub here : known hint ≡ present clause
  pub literal : Literal
  pub unit : IsUnit falses clause literal
  pub more_false : more ≡ falses ++ opposite literal ∷ []

-- the clause of the hint is falsified
pub record IsConflict (known : ℕ → Entry) (falses : List Literal) (hint : ℕ) : Type 0 where
  pub clause : List Literal
  pub here : known hint ≡ present clause
  pub falsified : IsFalsified falses clause

-- why a hint fails
abbrev pub IsFailure : List Literal → ℕ → Entry → Reason → Type 0
IsFailure falses hint absent reason = reason ≡ UnknownHint hint
IsFailure falses hint deleted reason = reason ≡ DeletedHint hint
IsFailure falses hint (present clause) reason = IsOpen falses clause × (reason ≡ HintNotUnit hint)

-- what a hint does
abbrev pub IsStep : (ℕ → Entry) → List Literal → ℕ → List Literal → HintStep → Type 0
IsStep known falses hint more Conflict = IsConflict known falses hint
IsStep known falses hint more Propagated = Propagates known falses hint more
IsStep known falses hint more (Fails reason) = IsFailure falses hint (known hint) reason

-- no reason means that the hints lead to a conflict
abbrev pub IsHintsVerdict : (ℕ → Entry) → List Literal → List ℕ → Bool → Option Reason → Type 0
IsHintsVerdict known falses hints resolvents None = LeadsToConflict known falses hints
IsHintsVerdict known falses hints resolvents (Some reason) = IsHintsReason known falses hints resolvents reason

-- no reason means that the line is right
abbrev pub IsVerdict : Clauses → Line → Option Reason → Type 0
IsVerdict c line None = IsRight c line
IsVerdict c line (Some reason) = IsReason c line reason

-- whether the last clause is empty after a line, and after lines
abbrev pub empty_after : Bool → Line → Bool
empty_after before (Addition id clause hints resolvents) = length clause == 0
empty_after before (Deletion ids) = before

abbrev pub ends_empty : Bool → List Line → Bool
ends_empty before [] = before
ends_empty before (line ∷ lines) = ends_empty (empty_after before line) lines
