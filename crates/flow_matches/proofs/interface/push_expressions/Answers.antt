use Rattle.std.proofs.Common.{ap, sym, ◌∙◌, ◌++◌, map, take_all}
use Rattle.std.specs.Prelude.{Vec}
use Rattle.std.specs.declared.alloc.Global.{Global}
use Rattle.flow_model.specs.declared.graph.ExprNode.{ExprNode}
use Rattle.flow_model.specs.Polish.{expr_of, values_of}
use Rattle.flow_model.specs.WholeGraphs.{is_whole_expr}
use Rattle.flow_model.specs.Matches.{Equation, equation_of}
use Rattle.flow_model.specs.declared.block_match.Equation.{Equation as AnEquation}
use Rattle.flow_matches.proofs.PushedLists.{map_twice, mapped_push}
use Rattle.flow_matches.proofs.WholeParts.{all_item, all_pushed}
use Rattle.flow_matches.proofs.interface.push_expressions.Goals as goal

pub loop-equation-preserved : goal.loop-equation-preserved
loop-equation-preserved c =
    let tree = λ (e : AnEquation). expr_of e.expression.items in
    let whole = λ (e : Vec ExprNode Global). is_whole_expr e.items in
    record {
      trees = mapped_push (λ (e : Vec ExprNode Global). expr_of e.items) tree (values_of c.args.values.now.items) c.args.equations.now c.loop-equation.equation-index c.equation-item.result c.loop-equation.values.items c.append.new.list.items c.in_ok-copy_expr.field-0
          c.loop-equation-test.true c.in_ok-append.ensures (ap expr_of c.in_ok-copy_expr.ensures ∙ ap tree c.equation-item.is) c.loop-equation.invariant.trees;
      whole = λ equations old. all_pushed whole c.loop-equation.values.items c.append.new.list.items c.in_ok-copy_expr.field-0 c.in_ok-append.ensures (c.loop-equation.invariant.whole equations old)
          (ap is_whole_expr c.in_ok-copy_expr.ensures ∙ all_item (λ (e : AnEquation). is_whole_expr e.expression.items) c.args.equations.now c.loop-equation.equation-index c.equation-item.result c.loop-equation-test.true c.equation-item.is equations);
    }

pub returns-clause-trees : goal.returns-clause-trees
returns-clause-trees c =
    c.loop-equation.invariant.trees
    ∙ ap (λ es. values_of c.args.values.now.items ++ es)
    (ap (map (λ (e : AnEquation). expr_of e.expression.items)) (take_all c.loop-equation.equation-index c.args.equations.now c.loop-equation-test.false)
    ∙ sym (map_twice (λ (e : Equation). e.expression) equation_of c.args.equations.now))
