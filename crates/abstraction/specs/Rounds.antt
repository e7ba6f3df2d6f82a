-- Rounds: substituting assignments in comparisons gives further tests.
use Rattle.std.specs.Prelude.{ℕ, zero, suc, ◌-◌, List, [], ◌∷◌, ◌++◌, length, flat_map, Bool, ◌&&◌, not, nat_lt, if◌then◌else◌, nat_le}
use Rattle.std.specs.List.{list_any}
use Rattle.kat_model.specs.declared.limits.TheConstants.{MAX_TESTS}
use Rattle.kat_model.specs.Stores.{modulus}
use Rattle.linear_forms.specs.Comparisons.{atomic_nodes, substituted}
use Rattle.linear_forms.specs.declared.comparison.Atomic.{Atomic}
use Rattle.while_lang.specs.Files.{FileParts}
use Rattle.abstraction.specs.Comparisons.{Assignment, atomics}
use Rattle.linear_forms.specs.Sameness.{is_same_comparison}
use Rattle.abstraction.specs.Tables.{Tables, first_comparisons, file_assignments}
use Rattle.abstraction.specs.declared.rounds.TheConstants.{MAX_APPENDED_NODES}

-- whether a comparison is appended to a table with at most `most` comparisons: it is not in the table yet, has at most
-- `MAX_APPENDED_NODES` nodes, and there is room
abbrev pub is_appended : ℕ → List Atomic → Atomic → Bool
is_appended most table a = not (list_any (is_same_comparison a) table) && (nat_le (atomic_nodes a) MAX_APPENDED_NODES && nat_lt (length table) most)

abbrev pub append_all : ℕ → List Atomic → List Atomic → List Atomic
append_all most table [] = table
append_all most table (a ∷ rest) = append_all most (if is_appended most table a then table ++ a ∷ [] else table) rest

-- the comparisons that hold before an assignment exactly when those of a list hold after it, for each assignment in
-- order and each comparison in order
abbrev pub substitutions : ℕ → List Assignment → List Atomic → List Atomic
substitutions m assigned table = flat_map (λ a. flat_map (λ phi. atomics (substituted m a.var a.form phi)) table) assigned

-- one round processes the comparisons that were in the table when it began
abbrev pub round : ℕ → ℕ → List Assignment → List Atomic → List Atomic
round m most assigned table = append_all most table (substitutions m assigned table)

abbrev pub rounds : ℕ → ℕ → ℕ → List Assignment → List Atomic → List Atomic
rounds zero m most assigned table = table
rounds (suc n) m most assigned table = rounds n m most assigned (round m most assigned table)

-- all comparisons of the table of the file: with the declared tests there are at most `MAX_TESTS` after the rounds,
-- unless there were more before them
abbrev pub file_comparisons : FileParts → List Atomic
file_comparisons f = rounds f.rounds (modulus f.width) (MAX_TESTS - f.tests) (file_assignments f) (first_comparisons f)

abbrev pub tables_of : FileParts → Tables
tables_of f = record { tests = f.tests; actions = f.actions; comparisons = file_comparisons f; assignments = file_assignments f; width = f.width }
