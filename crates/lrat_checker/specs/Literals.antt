-- Literals and clauses, and their truth under an assignment.
use Rattle.std.specs.Prelude.{◌≡◌, ℕ, Bool, not, List}
use Rattle.kat_model.specs.Members.{Has}
use Rattle.lrat_checker.specs.declared.literal.Literal.{Literal}

-- the negation of a literal, as a literal
abbrev pub opposite : Literal → Literal
opposite l = record { variable = l.variable; positive = not l.positive }

-- an assignment gives each variable a truth value
abbrev pub Assignment : Type 0
Assignment = ℕ → Bool

-- the literal is true
abbrev pub Holds : Assignment → Literal → Type 0
Holds a l = a l.variable ≡ l.positive

-- some literal of the clause is true
abbrev pub SatisfiesClause : Assignment → List Literal → Type 0
SatisfiesClause a clause = (l : Literal) × Has clause l × Holds a l

-- the assignment satisfies each of the clauses
abbrev pub Satisfies : Assignment → List (List Literal) → Type 0
Satisfies a clauses = (clause : List Literal) → Has clauses clause → SatisfiesClause a clause

-- no assignment satisfies all of the clauses
abbrev pub IsUnsatisfiable : List (List Literal) → Type 0
IsUnsatisfiable clauses = (a : Assignment) → Satisfies a clauses → ⊥
