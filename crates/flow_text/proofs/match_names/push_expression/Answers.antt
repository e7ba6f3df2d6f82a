use Rattle.std.proofs.Common.{sym, ◌∙◌}
use Rattle.flow_syntax.specs.SyntaxViews.{expr_syntax}
use Rattle.flow_syntax.proofs.Stacked.{expr_none}
use Rattle.flow_text.specs.MatchViews.{names_parts}
use Rattle.flow_text.specs.ScopeViews.{sight_parts}
use Rattle.flow_text.proofs.LastTaken.{kept, ended}
use Rattle.flow_text.proofs.NameSteps.{none_more}
use Rattle.flow_text.proofs.MatchNameSteps.{with_nodes, node_step}
use Rattle.flow_text.proofs.match_names.push_expression.Goals as goal

pub nodes-preserved : goal.nodes-preserved
nodes-preserved c =
    let s = sight_parts c.args.visible.now in
    let before = c.in-Some.field-0-1.now in
    let x = c.in-Some.node.now in
    let now = c.push_node.new.names.items in
    kept (with_nodes s c.args.part) expr_syntax c.nodes.names.items now c.nodes.rest.now before x (with_nodes s c.args.part c.args.names.now.items (expr_syntax c.args.expr.now)) c.in-Some.ensures.cases.0
    (node_step s c.args.part c.nodes.names.items now before x c.in_ok-push_node.ensures) c.nodes.invariant

pub returns : goal.returns
returns c =
    let s = sight_parts c.args.visible.now in
    none_more (names_parts c.nodes.names.items)
    ∙ sym (ended (with_nodes s c.args.part) expr_syntax c.nodes.names.items c.nodes.rest.now (with_nodes s c.args.part c.args.names.now.items (expr_syntax c.args.expr.now)) c.in_default.ensures.cases expr_none c.nodes.invariant)
