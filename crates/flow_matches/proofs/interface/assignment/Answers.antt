use Rattle.std.proofs.Common.{◌++◌, ap, ◌∙◌, sym, map, take_all}
use mathlib.Core.Path.{ap₂}
use Rattle.flow_model.specs.Graphs.{assign}
use Rattle.flow_model.specs.Polish.{values_of}
use Rattle.flow_model.specs.WholeGraphs.{are_whole_exprs}
use Rattle.flow_model.specs.Matches.{Equation, equation_of}
use Rattle.flow_model.specs.declared.block_match.Equation.{Equation as AnEquation}
use Rattle.flow_matches.proofs.PushedLists.{map_twice}
use Rattle.flow_matches.proofs.interface.assignment.Goals as goal

pub returns-clause-tree : goal.returns-clause-tree
returns-clause-tree c =
    ap₂ assign
    (c.loop-equation.invariant
    ∙ ap (map (λ (e : AnEquation). e.variable)) (take_all c.loop-equation.equation-index c.args.equations.now c.loop-equation-test.false)
    ∙ sym (map_twice (λ (e : Equation). e.variable) equation_of c.args.equations.now))
    (c.in_ok-push_expressions.ensures.trees ∙ ap (λ l. values_of l ++ map (λ (e : Equation). e.expression) (map equation_of c.args.equations.now)) c.new-values.ensures.items)

pub returns-clause-whole : goal.returns-clause-whole
returns-clause-whole c = λ equations. c.in_ok-push_expressions.ensures.whole equations (ap are_whole_exprs c.new-values.ensures.items)
