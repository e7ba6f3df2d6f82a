use Rattle.std.proofs.Common.{◌≡◌, ◌-◌, List, [], ◌∷◌, ◌++◌, length, take, map, Err, sym, ap, subst, ◌∙◌}
use Rattle.std.specs.Prelude.{Vec}
use Rattle.std.specs.declared.alloc.Global.{Global}
use Rattle.std.proofs.lemmas.Result.{err_from_is_err_and}
use Rattle.text_parser.specs.declared.fault.TextFault.{TextFault}
use Rattle.flow_model.specs.declared.graph.CondNode.{CondNode}
use Rattle.flow_text.specs.Trees.{cond_part}
use Rattle.flow_text.specs.Resolving.{part_of, parts_after}
use Rattle.flow_text.specs.ScopeViews.{sight_parts}
use Rattle.flow_syntax.specs.SyntaxViews.{cond_node_syntax, cond_syntax}
use Rattle.flow_syntax.proofs.Stacked.{cond_none}
use Rattle.flow_text.proofs.LastTaken.{kept, left_at, ended}
use Rattle.flow_text.proofs.ProgramResults.{fault_seen}
use Rattle.flow_text.proofs.CondSteps.{node_made, node_refused}
use Rattle.flow_text.proofs.resolve_cond.resolve_nodes.Goals as goal

pub nodes-preserved : goal.nodes-preserved
nodes-preserved c =
    let s = sight_parts c.args.visible_names.now in
    let made = c.nodes.nodes.items in
    let rest = c.nodes.rest.now in
    let before = c.in-Some.field-0-1.now in
    let next = made ++ c.in_ok-node.node ∷ [] in
    let whole = parts_after s [] (cond_syntax c.args.cond.now) in
    subst (λ (l : List CondNode). parts_after s (map cond_part l) (cond_syntax (take (length rest - 1) rest)) ≡ whole) (sym c.in_ok-append.ensures)
    (kept (parts_after s) cond_syntax (map cond_part made) (map cond_part next) rest before c.in-Some.node.now whole c.in-Some.ensures.cases.0
    (node_made s made before c.in-Some.node.now c.in_ok-node.node c.in_ok-node.ensures) c.nodes.invariant)

pub returns-in_err-node : goal.returns-in_err-node
returns-in_err-node c =
    let s = sight_parts c.args.visible_names.now in
    let made = map cond_part c.nodes.nodes.items in
    let before = c.in-Some.field-0-1.now in
    let fault = c.in_err-node.field-0.0 in
    let whole = parts_after s [] (cond_syntax c.args.cond.now) in
    let answer = err_from_is_err_and c.from_residual.result c.from_residual.ensures.1 in
    fault_seen (λ (v : Vec CondNode Global). map cond_part v.items) cond_part c.from_residual.result fault (part_of s (cond_node_syntax c.in-Some.node.now)) whole (answer.1 ∙ ap (λ (f : TextFault). Err f) answer.2) c.in_err-node.ensures
    (λ fails. left_at (parts_after s) cond_syntax made c.nodes.rest.now before c.in-Some.node.now whole (Err fault) c.in-Some.ensures.cases.0
    (node_refused s made before c.in-Some.node.now fault fails) c.nodes.invariant)

pub returns : goal.returns
returns c =
    let s = sight_parts c.args.visible_names.now in
    ended (parts_after s) cond_syntax (map cond_part c.nodes.nodes.items) c.nodes.rest.now (parts_after s [] (cond_syntax c.args.cond.now)) c.in_default.ensures.cases cond_none c.nodes.invariant
