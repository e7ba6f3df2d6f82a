use Rattle.std.proofs.Common.{◌≡◌, drop}
use Rattle.kat_model.specs.Stores.{modulus}
use Rattle.while_lang.specs.ProgramViews.{list_tree}
use Rattle.abstraction.specs.Comparisons.{prog_assignments}
use Rattle.abstraction.specs.Tables.{is_same_assignment}
use Rattle.kat_model.specs.UniqueRows.{with_all_new_within}
use Rattle.abstraction.proofs.assignments.+assignments.Given as goal

-- the remaining statements add the remaining assignments
abbrev pub invariant-add_prog-loop-stmt : goal.invariant-add_prog-loop-stmt
invariant-add_prog-loop-stmt l =
    with_all_new_within l.most is_same_assignment l.rows.items (prog_assignments (modulus l.width) (list_tree (drop l.stmt-index l.stmt-items)))
    ≡ with_all_new_within l.most is_same_assignment l.initial.rows.items (prog_assignments (modulus l.width) (list_tree l.stmt-items))
