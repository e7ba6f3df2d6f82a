use Rattle.std.proofs.Common.{◌≡◌, List, [], ap, ◌∙◌, ◌++◌, flat_map, map, take_all}
use Rattle.flow_model.specs.Polish.{CondPart, cond_part, conds_of, first_cond}
use Rattle.flow_model.specs.Matches.{equation_of}
use Rattle.flow_model.specs.WholeGraphs.{is_whole_expr}
use Rattle.flow_model.specs.declared.block_match.Equation.{Equation}
use Rattle.flow_matches.specs.Working.SideViews.{equation_parts}
use Rattle.flow_matches.proofs.EquationLists.{parts_hold, flat_parts}
use Rattle.flow_matches.proofs.PushedLists.{flat_push}
use Rattle.flow_matches.proofs.WholeParts.{all_item, whole_holding}
use Rattle.flow_matches.proofs.interface.holding.Goals as goal

pub loop-equation-preserved : goal.loop-equation-preserved
loop-equation-preserved c =
    let parts = λ (e : Equation). equation_parts (equation_of e) in
    let xs = c.args.equations.now in
    let i = c.loop-equation.equation-index in
    let x = c.equation-item.result in
    record {
      parts = flat_push parts [] (map cond_part c.loop-equation.nodes.items) (map cond_part c.push_equation.new.nodes.items) (parts x) xs i x c.loop-equation-test.true c.loop-equation.invariant.parts c.in_ok-push_equation.ensures.parts (ap parts c.equation-item.is);
      whole = λ equations. c.in_ok-push_equation.ensures.whole (all_item (λ (e : Equation). is_whole_expr e.expression.items) xs i x c.loop-equation-test.true c.equation-item.is equations) (c.loop-equation.invariant.whole equations);
    }

-- the nodes of all equations, and those of the condition
all_parts : (equations left : List Equation) (nodes new cond : List CondPart) → left ≡ equations → nodes ≡ flat_map (λ (e : Equation). equation_parts (equation_of e)) left → new ≡ nodes ++ cond → new ≡ flat_map equation_parts (map equation_of equations) ++ cond
all_parts equations left nodes new cond all made added =
    added ∙ ap (λ ps. ps ++ cond) (made ∙ ap (flat_map (λ (e : Equation). equation_parts (equation_of e))) all ∙ flat_parts equations)

pub returns-clause-tree : goal.returns-clause-tree
returns-clause-tree c =
    let xs = c.args.equations.now in
    let cond = map cond_part c.args.cond.now in
    ap (λ ps. first_cond (conds_of ps))
    (all_parts xs _ (map cond_part c.loop-equation.nodes.items) (map cond_part c.push_cond.new.list.items) cond (take_all c.loop-equation.equation-index xs c.loop-equation-test.false) c.loop-equation.invariant.parts c.in_ok-push_cond.ensures.parts)
    ∙ parts_hold (map equation_of xs) cond

pub returns-clause-whole : goal.returns-clause-whole
returns-clause-whole c = λ equations cond.
    let xs = c.args.equations.now in
    whole_holding (map equation_of xs) c.args.cond.now c.loop-equation.nodes.items c.push_cond.new.list.items cond (c.loop-equation.invariant.whole equations)
    (all_parts xs _ (map cond_part c.loop-equation.nodes.items) (map cond_part c.push_cond.new.list.items) (map cond_part c.args.cond.now) (take_all c.loop-equation.equation-index xs c.loop-equation-test.false) c.loop-equation.invariant.parts c.in_ok-push_cond.ensures.parts)
    c.in_ok-push_cond.ensures.whole
