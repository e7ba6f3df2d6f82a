-- The tables of an abstraction: the comparisons that are its tests, and the assignments that are its actions.
use Rattle.std.specs.Prelude.{ℕ, List, [], Bool, ◌&&◌, nat_eq}
use Rattle.kat_model.specs.Stores.{modulus}
use Rattle.kat_model.specs.declared.expression.Width.{Width}
use Rattle.linear_forms.specs.Sameness.{is_same_form, is_same_comparison}
use Rattle.linear_forms.specs.declared.comparison.Atomic.{Atomic}
use Rattle.kat_model.specs.UniqueRows.{with_all_new}
use Rattle.while_lang.specs.Files.{FileParts}
use Rattle.abstraction.specs.Comparisons.{Assignment, goal_comparisons, goal_assignments}

-- whether two assignments are the same
abbrev pub is_same_assignment : Assignment → Assignment → Bool
is_same_assignment a b = nat_eq a.var b.var && is_same_form a.form b.form

-- The tables with which conditions and programs are read: the numbers of declared tests and actions, the comparisons
-- and the assignments that are the tests and actions after the declared ones, and the width of numbers.
pub record Tables : Type 0 where
  pub tests : ℕ
  pub actions : ℕ
  pub comparisons : List Atomic
  pub assignments : List Assignment
  pub width : Width

-- the comparisons of the goal of the file, and its assignments, each once
abbrev pub first_comparisons : FileParts → List Atomic
first_comparisons f = with_all_new is_same_comparison [] (goal_comparisons (modulus f.width) f.goal)

abbrev pub file_assignments : FileParts → List Assignment
file_assignments f = with_all_new is_same_assignment [] (goal_assignments (modulus f.width) f.goal)
