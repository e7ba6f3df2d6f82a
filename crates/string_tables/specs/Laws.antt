-- The laws of strings and their tables. Each is the contract of a function of the crate that does nothing.
use Rattle.std.specs.Prelude.{◌≡◌, ◌≢◌, ◌↔◌, ◌-◌, ◌≤◌, ℕ, length, take, drop, IsTrue}
use Rattle.kat_model.specs.Trees.{Term}
use Rattle.kat_model.specs.Problems.{ProblemParts}
use Rattle.kat_model.specs.Relations.{Relates, Same}
use Rattle.kat_model.specs.Strings.{GuardedString, IsString, last_atom, accepts}
use Rattle.kat_model.specs.Closed.{closed}
use Rattle.string_tables.specs.Tables.{table_of, Refutes}
use Rattle.string_tables.specs.declared.finding.Finding.{Finding}
use Rattle.string_tables.specs.Findings.{IsFinding}

-- the term accepts the part of the string from position i to position j
pub record AcceptsPart (x : GuardedString) (e : Term) (i j : ℕ) : Type 0 where
  pub order : i ≤ j
  pub accepted : IsTrue (accepts e (last_atom x.first (take i x.rest)) (take (j - i) (drop i x.rest)))

-- a term relates two positions exactly when it accepts the part between them
abbrev pub RelatesByParts : Type 0
RelatesByParts = (x : GuardedString) (e : Term) (i j : ℕ) → i ≤ length x.rest → j ≤ length x.rest → Relates (table_of x) e i j ↔ AcceptsPart x e i j

-- exactly one of the closed sides accepts the string
abbrev pub ClosedDiffer : ProblemParts → GuardedString → Type 0
ClosedDiffer q x = accepts (closed q).left x.first x.rest ≢ accepts (closed q).right x.first x.rest

-- a string refutes a question exactly when it fits and exactly one closed side accepts it
abbrev pub RefutesByClosed : Type 0
RefutesByClosed = (q : ProblemParts) (x : GuardedString) → Refutes q x ↔ (IsString q.tests q.actions x × ClosedDiffer q x)

-- the sides of a question that a string refutes are not the same
abbrev pub RefutedAreNotSame : Type 0
RefutedAreNotSame = (q : ProblemParts) (x : GuardedString) → Refutes q x → Same q → ⊥

-- a string has only one finding
abbrev pub HasOneFinding : Type 0
HasOneFinding = (q : ProblemParts) (x : GuardedString) (f g : Finding) → IsFinding q x f → IsFinding q x g → f ≡ g
