use Rattle.std.proofs.Common.{sym, ◌∙◌}
use Rattle.flow_syntax.specs.SyntaxViews.{equations_syntax}
use Rattle.flow_syntax.proofs.Stacked.{equations_none}
use Rattle.flow_text.specs.MatchViews.{names_parts}
use Rattle.flow_text.specs.ScopeViews.{sight_parts}
use Rattle.flow_text.proofs.LastTaken.{kept, ended}
use Rattle.flow_text.proofs.NameSteps.{none_more}
use Rattle.flow_text.proofs.MatchNameSteps.{with_equations, equation_step}
use Rattle.flow_text.proofs.match_names.push_equations.Goals as goal

pub written-preserved : goal.written-preserved
written-preserved c =
    let s = sight_parts c.args.visible.now in
    let before = c.in-Some.field-0-1.now in
    let x = c.in-Some.equation.now in
    let now = c.push_equation.new.names.items in
    kept (with_equations s c.args.part) equations_syntax c.written.names.items now c.written.rest.now before x (with_equations s c.args.part c.args.names.now.items (equations_syntax c.args.equations.now)) c.in-Some.ensures.cases.0
    (equation_step s c.args.part c.written.names.items now before x c.in_ok-push_equation.ensures) c.written.invariant

pub returns : goal.returns
returns c =
    let s = sight_parts c.args.visible.now in
    none_more (names_parts c.written.names.items)
    ∙ sym (ended (with_equations s c.args.part) equations_syntax c.written.names.items c.written.rest.now (with_equations s c.args.part c.args.names.now.items (equations_syntax c.args.equations.now)) c.in_default.ensures.cases equations_none c.written.invariant)
