use Rattle.std.proofs.lemmas.Result.{on_ok_weaker}
use Rattle.kat_model.specs.declared.limits.TheConstants.{MAX_TESTS}
use Rattle.flow_forms.specs.Comparisons.{comparison_tree, is_same_comparison}
use Rattle.kat_model.proofs.MappedRows.{row_kept, row_added}
use Rattle.flow_edges.proofs.comparisons.add_comparison.Goals as goal

pub returns-then-is_left_out : goal.returns-then-is_left_out
returns-then-is_left_out c =
    row_kept comparison_tree is_same_comparison MAX_TESTS c.args.rows.now.items c.args.comparison.now c.deref.result.now c.is_left_out.result c.deref.ensures.value c.is_left_out.ensures c.if-is_left_out.true

pub returns : goal.returns
returns c =
    on_ok_weaker c.append.result
    (λ pushed. row_added comparison_tree is_same_comparison MAX_TESTS c.args.rows.now.items c.args.comparison.now c.deref.result.now c.append.new.list.items c.in_ok-row.row c.is_left_out.result c.deref.ensures.value c.is_left_out.ensures
    c.if-is_left_out.false pushed c.in_ok-row.ensures)
    c.append.ensures
