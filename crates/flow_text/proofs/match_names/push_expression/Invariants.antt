use Rattle.std.proofs.Common.{◌≡◌, length}
use Rattle.flow_syntax.specs.SyntaxViews.{expr_syntax}
use Rattle.flow_text.specs.ScopeViews.{sight_parts}
use Rattle.flow_text.proofs.MatchNameSteps.{with_nodes}
use Rattle.flow_text.proofs.match_names.push_expression.Given as goal

-- the names so far, and those of the nodes that are left
abbrev pub invariant-nodes : goal.invariant-nodes
invariant-nodes l = with_nodes (sight_parts l.visible) l.part l.names.items (expr_syntax l.rest) ≡ with_nodes (sight_parts l.visible) l.part l.initial.names.items (expr_syntax l.fn.expr)

abbrev pub decreases-nodes : goal.decreases-nodes
decreases-nodes l = length l.rest
