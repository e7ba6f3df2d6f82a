use Rattle.std.proofs.Common.{◌≡◌, ◌-◌, List, [], ◌∷◌, ◌++◌, length, take, Err, sym, ap, subst, ◌∙◌}
use Rattle.std.specs.Prelude.{Vec}
use Rattle.std.specs.declared.alloc.Global.{Global}
use Rattle.std.proofs.lemmas.Result.{err_from_is_err_and}
use Rattle.text_parser.specs.declared.fault.TextFault.{TextFault}
use Rattle.flow_model.specs.declared.graph.ExprNode.{ExprNode}
use Rattle.flow_text.specs.Resolving.{nodes_after, next_node, resolved}
use Rattle.flow_text.specs.ScopeViews.{sight_parts}
use Rattle.flow_syntax.specs.SyntaxViews.{node_syntax, expr_syntax}
use Rattle.flow_text.specs.Working.Wanting.{expected_syntax, expected_stack}
use Rattle.flow_text.proofs.LastTaken.{before_last}
use Rattle.flow_text.proofs.ResolvedSteps.{node_kept, node_refused, none_expected, none_left, fault_given}
use Rattle.flow_text.proofs.resolve.resolve.Goals as goal

pub nodes-preserved : goal.nodes-preserved
nodes-preserved c =
    let s = sight_parts c.args.visible_names.now in
    let made = c.nodes.nodes.items in
    let rest = c.nodes.rest.now in
    let before = c.in-Some.field-0-1.now in
    let now = expected_stack c.next_node.new.stack.items in
    let next = made ++ c.in_ok-made.made ∷ [] in
    let whole = resolved s c.args.expected (expr_syntax c.args.expr.now) in
    subst (λ (l : List ExprNode). nodes_after s l now (expr_syntax (take (length rest - 1) rest)) ≡ whole) (sym c.in_ok-append.ensures)
    (ap (λ ns. nodes_after s next now (expr_syntax ns)) (before_last rest before c.in-Some.node.now c.in-Some.ensures.cases.0)
    ∙ node_kept s made (expected_stack c.nodes.stack.items) now (expected_syntax c.in-Some-pop_expected.next) (expected_stack c.pop_expected.new.stack.items) rest before c.in-Some.node.now c.in_ok-made.made whole
    c.in-Some.ensures.cases.0 c.in-Some-pop_expected.ensures.some c.in_ok-made.ensures c.nodes.invariant)

pub returns-in_err-made : goal.returns-in_err-made
returns-in_err-made c =
    let s = sight_parts c.args.visible_names.now in
    let made = c.nodes.nodes.items in
    let rest = c.nodes.rest.now in
    let before = c.in-Some.field-0-1.now in
    let w = expected_syntax c.in-Some-pop_expected.next in
    let ws = expected_stack c.pop_expected.new.stack.items in
    let fault = c.in_err-made.field-0.0 in
    let whole = resolved s c.args.expected (expr_syntax c.args.expr.now) in
    let answer = err_from_is_err_and c.from_residual-in_err-made.result c.from_residual-in_err-made.ensures.1 in
    fault_given (λ (v : Vec ExprNode Global). v.items) c.from_residual-in_err-made.result fault (expected_stack c.next_node.new.stack.items) (next_node s w ws (node_syntax c.in-Some.node.now)) whole (answer.1 ∙ ap (λ (f : TextFault). Err f) answer.2) c.in_err-made.ensures
    (λ fails. node_refused s made (expected_stack c.nodes.stack.items) w ws rest before c.in-Some.node.now fault whole c.in-Some.ensures.cases.0 c.in-Some-pop_expected.ensures.some fails c.nodes.invariant)

pub returns-in_default-pop_expected : goal.returns-in_default-pop_expected
returns-in_default-pop_expected c =
    let s = sight_parts c.args.visible_names.now in
    none_expected s c.nodes.nodes.items (expected_stack c.nodes.stack.items) (expr_syntax c.nodes.rest.now) (resolved s c.args.expected (expr_syntax c.args.expr.now)) c.in_default-pop_expected.ensures.none c.nodes.invariant

pub returns : goal.returns
returns c =
    let s = sight_parts c.args.visible_names.now in
    none_left s c.nodes.nodes.items (expected_stack c.nodes.stack.items) c.nodes.rest.now (resolved s c.args.expected (expr_syntax c.args.expr.now)) c.in_default.ensures.cases c.nodes.invariant
