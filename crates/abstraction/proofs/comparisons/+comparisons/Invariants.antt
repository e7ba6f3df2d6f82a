use Rattle.std.proofs.Common.{◌≡◌, drop}
use Rattle.kat_model.specs.Stores.{modulus}
use Rattle.while_lang.specs.ProgramViews.{list_tree}
use Rattle.abstraction.specs.Comparisons.{prog_comparisons}
use Rattle.linear_forms.specs.Sameness.{is_same_comparison}
use Rattle.kat_model.specs.UniqueRows.{with_all_new_within}
use Rattle.abstraction.proofs.comparisons.+comparisons.Given as goal

-- the remaining statements add the remaining comparisons
abbrev pub invariant-add_prog-loop-stmt : goal.invariant-add_prog-loop-stmt
invariant-add_prog-loop-stmt l =
    with_all_new_within l.most is_same_comparison l.rows.items (prog_comparisons (modulus l.width) (list_tree (drop l.stmt-index l.stmt-items)))
    ≡ with_all_new_within l.most is_same_comparison l.initial.rows.items (prog_comparisons (modulus l.width) (list_tree l.stmt-items))
