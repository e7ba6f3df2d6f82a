-- The comparisons and the assignments of a file's goal are in its tables.
use Rattle.std.proofs.Common.{ℕ, zero, suc, List, [], ◌∷◌, ◌++◌, Bool, true, false, if◌then◌else◌}
use Rattle.kat_model.specs.Members.{Has, IsSubset}
use Rattle.kat_model.specs.Stores.{modulus}
use Rattle.kat_model.proofs.Lists.{has_left}
use Rattle.kat_model.proofs.RowMembers.{with_all_new_has}
use Rattle.linear_forms.specs.declared.comparison.Atomic.{Atomic}
use Rattle.while_lang.specs.Files.{FileParts}
use Rattle.abstraction.specs.Comparisons.{Assignment, goal_comparisons, goal_assignments}
use Rattle.linear_forms.specs.Sameness.{is_same_comparison}
use Rattle.abstraction.specs.Tables.{is_same_assignment, first_comparisons, file_assignments}
use Rattle.abstraction.specs.Rounds.{is_appended, append_all, substitutions, round, rounds, file_comparisons}
use Rattle.linear_forms.proofs.Sameness.{is_same_comparison-true}
use Rattle.abstraction.proofs.SameRows.{is_same_assignment-true}

-- a list keeps its members when an element may be appended
append_if_keeps : {X : Type 0} (b : Bool) (xs : List X) (y x : X) → Has xs x → Has (if b then xs ++ y ∷ [] else xs) x
append_if_keeps true xs y x h = has_left xs (y ∷ []) x h
append_if_keeps false xs y x h = h

append_all_keeps : (most : ℕ) (table more : List Atomic) → IsSubset table (append_all most table more)
append_all_keeps most table [] x h = h
append_all_keeps most table (a ∷ more) x h =
    append_all_keeps most (if is_appended most table a then table ++ a ∷ [] else table) more x (append_if_keeps (is_appended most table a) table a x h)

rounds_keep : (n m most : ℕ) (set : List Assignment) (table : List Atomic) → IsSubset table (rounds n m most set table)
rounds_keep zero m most set table x h = h
rounds_keep (suc n) m most set table x h = rounds_keep n m most set (round m most set table) x (append_all_keeps most table (substitutions m set table) x h)

pub goal_comparisons_within : (f : FileParts) → IsSubset (goal_comparisons (modulus f.width) f.goal) (file_comparisons f)
goal_comparisons_within f x h =
    rounds_keep f.rounds (modulus f.width) _ (file_assignments f) (first_comparisons f) x
    (with_all_new_has is_same_comparison is_same_comparison-true [] (goal_comparisons (modulus f.width) f.goal) x h)

pub goal_assignments_within : (f : FileParts) → IsSubset (goal_assignments (modulus f.width) f.goal) (file_assignments f)
goal_assignments_within f = with_all_new_has is_same_assignment is_same_assignment-true [] (goal_assignments (modulus f.width) f.goal)
