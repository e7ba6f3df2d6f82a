use Rattle.std.proofs.Common.{◌&&◌, ◌++◌, ap, ◌∙◌, take_all}
use Rattle.std.specs.Prelude.{Vec}
use Rattle.std.specs.declared.alloc.Global.{Global}
use Rattle.flow_model.specs.declared.graph.ExprNode.{ExprNode}
use Rattle.flow_model.specs.Polish.{expr_of, values_of}
use Rattle.flow_model.specs.WholeGraphs.{is_whole_expr, are_whole_exprs}
use Rattle.flow_matches.proofs.PushedLists.{mapped_push}
use Rattle.flow_matches.proofs.WholeParts.{all_copied}
use Rattle.flow_matches.proofs.copies.push_exprs.Goals as goal

pub loop-value-preserved : goal.loop-value-preserved
loop-value-preserved c =
    let tree = λ (e : Vec ExprNode Global). expr_of e.items in
    let xs = c.args.values.now in
    let i = c.loop-value.value-index in
    let x = c.value-item.result in
    let old = c.loop-value.list.items in
    let new = c.append.new.list.items in
    let copy = c.in_ok-copy_expr.field-0 in
    record {
      trees = mapped_push tree tree (values_of c.args.list.now.items) xs i x old new copy c.loop-value-test.true c.in_ok-append.ensures (ap expr_of c.in_ok-copy_expr.ensures ∙ ap tree c.value-item.is) c.loop-value.invariant.trees;
      whole = all_copied (λ (e : Vec ExprNode Global). is_whole_expr e.items) (are_whole_exprs c.args.list.now.items) xs i old new x copy c.loop-value-test.true c.in_ok-append.ensures (ap is_whole_expr c.in_ok-copy_expr.ensures) c.value-item.is c.loop-value.invariant.whole;
    }

pub returns-clause-trees : goal.returns-clause-trees
returns-clause-trees c = c.loop-value.invariant.trees ∙ ap (λ es. values_of c.args.list.now.items ++ values_of es) (take_all c.loop-value.value-index c.args.values.now c.loop-value-test.false)

pub returns-clause-whole : goal.returns-clause-whole
returns-clause-whole c = c.loop-value.invariant.whole ∙ ap (λ es. are_whole_exprs c.args.list.now.items && are_whole_exprs es) (take_all c.loop-value.value-index c.args.values.now c.loop-value-test.false)
