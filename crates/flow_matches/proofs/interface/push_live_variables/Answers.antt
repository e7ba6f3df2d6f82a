use Rattle.std.proofs.Common.{◌≡◌, get_or, ap, sym, ◌∙◌, ◌++◌, filter, map, take_all}
use Rattle.std.specs.Prelude.{Vec}
use Rattle.std.specs.declared.alloc.Global.{Global}
use Rattle.flow_model.specs.declared.graph.ExprNode.{ExprNode}
use Rattle.flow_model.specs.Expressions.{variable}
use Rattle.flow_model.specs.Polish.{expr_of, values_of}
use Rattle.flow_model.specs.WholeGraphs.{is_whole_expr, are_whole_exprs}
use Rattle.flow_model.specs.Matches.{Equation, equation_of}
use Rattle.flow_model.specs.declared.block_match.Equation.{Equation as AnEquation}
use Rattle.flow_pieces.specs.PieceGraphs.{has_block}
use Rattle.flow_matches.proofs.PushedLists.{map_twice, filter_map_of, filtered_push, filtered_skip}
use Rattle.flow_matches.proofs.WholeParts.{all_pushed}
use Rattle.flow_matches.proofs.interface.push_live_variables.Goals as goal
use Rattle.flow_matches.proofs.interface.push_live_variables.Goals.{then-contains+in_ok-variable+in_ok-append, else-contains}

pub loop-equation-preserved : goal.loop-equation-preserved
loop-equation-preserved c =
    let xs = c.args.equations.now in
    let i = c.loop-equation.equation-index in
    let start = values_of c.args.values.now.items in
    let here = λ (e : AnEquation). has_block c.args.live.now e.variable in
    let test : c.contains.result ≡ here (get_or xs i c.equation-item.result) = c.contains.ensures.value ∙ ap here c.equation-item.is in
    let are_whole = λ (v : Vec (Vec ExprNode Global) Global). are_whole_exprs v.items in
    record {
      trees = elim c.if-contains.branch [
        | then-contains+in_ok-variable+in_ok-append w ↦
            ap (λ (v : Vec (Vec ExprNode Global) Global). values_of v.items) w.values-is
            ∙ filtered_push (λ (e : Vec ExprNode Global). expr_of e.items) (λ (e : AnEquation). variable e.variable) start xs i c.equation-item.result c.loop-equation.values.items w.append.new.list.items w.in_ok-variable.field-0
            c.loop-equation-test.true w.in_ok-append.ensures (w.in_ok-variable.ensures.tree ∙ ap (λ (e : AnEquation). variable e.variable) c.equation-item.is) here (sym test ∙ w.if-contains.true) c.loop-equation.invariant.trees
        | else-contains w ↦
            ap (λ (v : Vec (Vec ExprNode Global) Global). values_of v.items) w.values-is
            ∙ filtered_skip (λ (e : AnEquation). variable e.variable) start (values_of c.loop-equation.values.items) xs i c.equation-item.result here c.loop-equation-test.true (sym test ∙ w.if-contains.false) c.loop-equation.invariant.trees
      ];
      whole = λ old. elim c.if-contains.branch [
        | then-contains+in_ok-variable+in_ok-append w ↦
            ap are_whole w.values-is
            ∙ all_pushed (λ (e : Vec ExprNode Global). is_whole_expr e.items) c.loop-equation.values.items w.append.new.list.items w.in_ok-variable.field-0 w.in_ok-append.ensures (c.loop-equation.invariant.whole old) w.in_ok-variable.ensures.whole
        | else-contains w ↦ ap are_whole w.values-is ∙ c.loop-equation.invariant.whole old
      ];
    }

pub returns-clause-trees : goal.returns-clause-trees
returns-clause-trees c =
    c.loop-equation.invariant.trees
    ∙ ap (λ es. values_of c.args.values.now.items ++ es)
    (ap (λ es. map (λ (e : AnEquation). variable e.variable) (filter (λ (e : AnEquation). has_block c.args.live.now e.variable) es)) (take_all c.loop-equation.equation-index c.args.equations.now c.loop-equation-test.false)
    ∙ sym (ap (map (λ (e : Equation). variable e.variable)) (filter_map_of (λ (e : Equation). has_block c.args.live.now e.variable) equation_of c.args.equations.now)
    ∙ map_twice (λ (e : Equation). variable e.variable) equation_of (filter (λ (e : AnEquation). has_block c.args.live.now e.variable) c.args.equations.now)))
