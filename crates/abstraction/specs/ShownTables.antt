-- The tables with which an abstraction reads conditions and programs.
use Rattle.std.specs.Prelude.{ℕ, ◌+◌, List, [], ◌∷◌}
use Rattle.linear_forms.specs.declared.comparison.Atomic.{Atomic}
use Rattle.abstraction.specs.declared.rows.ActionRow.{ActionRow}
use Rattle.abstraction.specs.declared.rows.ActionRow.TheVariants as action
use Rattle.abstraction.specs.declared.rows.TestRow.{TestRow}
use Rattle.abstraction.specs.declared.rows.TestRow.TheVariants as test
use Rattle.abstraction.specs.Comparisons.{Assignment}
use Rattle.abstraction.specs.Tables.{Tables}
use Rattle.abstraction.specs.Abstracts.{AbstractParts}

-- the number of declared tests of a table, and the comparisons of the table
abbrev pub declared_tests : List TestRow → ℕ
declared_tests [] = 0
declared_tests (test.Named k ∷ rows) = declared_tests rows + 1
declared_tests (test.Compare a ∷ rows) = declared_tests rows

abbrev pub row_comparisons : List TestRow → List Atomic
row_comparisons [] = []
row_comparisons (test.Named k ∷ rows) = row_comparisons rows
row_comparisons (test.Compare a ∷ rows) = a ∷ row_comparisons rows

-- the number of declared actions of a table, and the assignments of the table
abbrev pub declared_actions : List ActionRow → ℕ
declared_actions [] = 0
declared_actions (action.Named k ∷ rows) = declared_actions rows + 1
declared_actions (action.Assign x f ∷ rows) = declared_actions rows

abbrev pub row_assignments : List ActionRow → List Assignment
row_assignments [] = []
row_assignments (action.Named k ∷ rows) = row_assignments rows
row_assignments (action.Assign x f ∷ rows) = record { var = x; form = f } ∷ row_assignments rows

abbrev pub shown_tables : AbstractParts → Tables
shown_tables a = record {
  tests = declared_tests a.tests;
  actions = declared_actions a.actions;
  comparisons = row_comparisons a.tests;
  assignments = row_assignments a.actions;
  width = a.width;
}
