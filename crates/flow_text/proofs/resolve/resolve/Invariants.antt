use Rattle.std.proofs.Common.{◌≡◌, length}
use Rattle.flow_text.specs.Resolving.{nodes_after, resolved}
use Rattle.flow_text.specs.ScopeViews.{sight_parts}
use Rattle.flow_syntax.specs.SyntaxViews.{expr_syntax}
use Rattle.flow_text.specs.Working.Wanting.{expected_stack}
use Rattle.flow_text.proofs.resolve.resolve.Given as goal

-- the nodes so far, with those that are left as the stack wants them
abbrev pub invariant-nodes : goal.invariant-nodes
invariant-nodes l = nodes_after (sight_parts l.visible_names) l.nodes.items (expected_stack l.stack.items) (expr_syntax l.rest) ≡ resolved (sight_parts l.visible_names) l.fn.expected (expr_syntax l.fn.expr)

abbrev pub decreases-nodes : goal.decreases-nodes
decreases-nodes l = length l.rest
