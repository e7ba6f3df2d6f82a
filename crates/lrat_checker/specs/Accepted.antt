-- Which proofs are accepted: LRAT (Cruz-Filipe, Heule, Hunt, Kaufmann and Schneider-Kamp 2017), with additions by unit
-- propagation only.
use Rattle.std.specs.Prelude.{◌≡◌, ℕ, ◌==◌, ◌<◌, zero, suc, if◌then◌else◌, List, [], ◌∷◌, length, Option, Some, None, slice_get}
use Rattle.std.specs.List.{list_any}
use Rattle.lrat_checker.specs.Propagation.{Entry, absent, deleted, present, LeadsToConflict}
use Rattle.lrat_checker.specs.declared.literal.Literal.{Literal}
use Rattle.lrat_checker.specs.declared.proof.Line.{Line}
use Rattle.lrat_checker.specs.declared.proof.Line.TheVariants.{Addition, Deletion}

-- the clauses at hand: what each id denotes, and the greatest id so far
pub record Clauses : Type 0 where
  pub known : ℕ → Entry
  pub greatest : ℕ

abbrev pub entry_of : Option (List Literal) → Entry
entry_of None = absent
entry_of (Some clause) = present clause

-- the clauses have the ids 1, 2 and so on
abbrev pub numbered : List (List Literal) → ℕ → Entry
numbered clauses zero = absent
numbered clauses (suc n) = entry_of (slice_get clauses n)

abbrev pub given : List (List Literal) → Clauses
given clauses = record { known = numbered clauses; greatest = length clauses }

-- what remains of an entry that is deleted
abbrev pub erased : Entry → Entry
erased absent = absent
erased deleted = deleted
erased (present clause) = deleted

abbrev pub after_line : Clauses → Line → Clauses
after_line c (Addition id clause hints resolvents) =
    record { known = λ n. if id == n then present clause else c.known n; greatest = id }
after_line c (Deletion ids) =
    record { known = λ n. if list_any (λ id. id == n) ids then erased (c.known n) else c.known n; greatest = c.greatest }

-- the clauses at hand after lines
abbrev pub after_lines : Clauses → List Line → Clauses
after_lines c [] = c
after_lines c (line ∷ lines) = after_lines (after_line c line) lines

-- An added clause has a new id, and follows: with all its literals false, unit propagation leads to a conflict.
abbrev pub IsRight : Clauses → Line → Type 0
IsRight c (Addition id clause hints resolvents) = (c.greatest < id) × LeadsToConflict c.known clause hints
IsRight c (Deletion ids) = Unit {0}

abbrev pub AreRight : Clauses → List Line → Type 0
AreRight c [] = Unit {0}
AreRight c (line ∷ lines) = IsRight c line × AreRight (after_line c line) lines

-- the last clause that the lines add, after this one
abbrev pub last_clause : Option (List Literal) → List Line → Option (List Literal)
last_clause last [] = last
last_clause last (Addition id clause hints resolvents ∷ lines) = last_clause (Some clause) lines
last_clause last (Deletion ids ∷ lines) = last_clause last lines

-- the proof shows that no assignment satisfies the clauses: each line is right, and the last clause is empty
pub record IsAccepted (clauses : List (List Literal)) (lines : List Line) : Type 0 where
  pub right : AreRight (given clauses) lines
  pub empty : last_clause None lines ≡ Some []
