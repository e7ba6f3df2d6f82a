use Rattle.std.proofs.Common.{ap, sym, ◌∙◌, ◌++◌, map, take_all}
use Rattle.std.specs.Prelude.{Vec}
use Rattle.std.specs.declared.alloc.Global.{Global}
use Rattle.flow_model.specs.declared.graph.ExprNode.{ExprNode}
use Rattle.flow_model.specs.Expressions.{variable}
use Rattle.flow_model.specs.Polish.{expr_of, values_of}
use Rattle.flow_model.specs.WholeGraphs.{is_whole_expr}
use Rattle.flow_model.specs.Matches.{Equation, equation_of}
use Rattle.flow_model.specs.declared.block_match.Equation.{Equation as AnEquation}
use Rattle.flow_matches.proofs.PushedLists.{map_twice, mapped_push}
use Rattle.flow_matches.proofs.WholeParts.{all_pushed}
use Rattle.flow_matches.proofs.interface.push_variables.Goals as goal

pub loop-equation-preserved : goal.loop-equation-preserved
loop-equation-preserved c =
    let tree = λ (e : AnEquation). variable e.variable in
    let whole = λ (e : Vec ExprNode Global). is_whole_expr e.items in
    record {
      trees = mapped_push (λ (e : Vec ExprNode Global). expr_of e.items) tree (values_of c.args.values.now.items) c.args.equations.now c.loop-equation.equation-index c.equation-item.result c.loop-equation.values.items c.append.new.list.items c.in_ok-variable.field-0
          c.loop-equation-test.true c.in_ok-append.ensures (c.in_ok-variable.ensures.tree ∙ ap tree c.equation-item.is) c.loop-equation.invariant.trees;
      whole = λ old. all_pushed whole c.loop-equation.values.items c.append.new.list.items c.in_ok-variable.field-0 c.in_ok-append.ensures (c.loop-equation.invariant.whole old) c.in_ok-variable.ensures.whole;
    }

pub returns-clause-trees : goal.returns-clause-trees
returns-clause-trees c =
    c.loop-equation.invariant.trees
    ∙ ap (λ es. values_of c.args.values.now.items ++ es)
    (ap (map (λ (e : AnEquation). variable e.variable)) (take_all c.loop-equation.equation-index c.args.equations.now c.loop-equation-test.false)
    ∙ sym (map_twice (λ (e : Equation). variable e.variable) equation_of c.args.equations.now))
