use Rattle.std.proofs.Common.{sym, ◌∙◌}
use Rattle.flow_syntax.specs.SyntaxViews.{cond_syntax}
use Rattle.flow_syntax.proofs.Stacked.{cond_none}
use Rattle.flow_text.specs.MatchViews.{names_parts}
use Rattle.flow_text.specs.ScopeViews.{sight_parts}
use Rattle.flow_text.proofs.LastTaken.{kept, ended}
use Rattle.flow_text.proofs.NameSteps.{none_more}
use Rattle.flow_text.proofs.MatchNameSteps.{with_cond_nodes, cond_node_step}
use Rattle.flow_text.proofs.match_names.push_condition.Goals as goal

pub nodes-preserved : goal.nodes-preserved
nodes-preserved c =
    let s = sight_parts c.args.visible.now in
    let before = c.in-Some.field-0-1.now in
    let x = c.in-Some.node.now in
    let now = c.push_cond_node.new.names.items in
    kept (with_cond_nodes s) cond_syntax c.nodes.names.items now c.nodes.rest.now before x (with_cond_nodes s c.args.names.now.items (cond_syntax c.args.cond.now)) c.in-Some.ensures.cases.0
    (cond_node_step s c.nodes.names.items now before x c.in_ok-push_cond_node.ensures) c.nodes.invariant

pub returns : goal.returns
returns c =
    let s = sight_parts c.args.visible.now in
    none_more (names_parts c.nodes.names.items)
    ∙ sym (ended (with_cond_nodes s) cond_syntax c.nodes.names.items c.nodes.rest.now (with_cond_nodes s c.args.names.now.items (cond_syntax c.args.cond.now)) c.in_default.ensures.cases cond_none c.nodes.invariant)
