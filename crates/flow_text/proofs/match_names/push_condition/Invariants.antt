use Rattle.std.proofs.Common.{◌≡◌, length}
use Rattle.flow_syntax.specs.SyntaxViews.{cond_syntax}
use Rattle.flow_text.specs.ScopeViews.{sight_parts}
use Rattle.flow_text.proofs.MatchNameSteps.{with_cond_nodes}
use Rattle.flow_text.proofs.match_names.push_condition.Given as goal

-- the names so far, and those of the nodes that are left
abbrev pub invariant-nodes : goal.invariant-nodes
invariant-nodes l = with_cond_nodes (sight_parts l.visible) l.names.items (cond_syntax l.rest) ≡ with_cond_nodes (sight_parts l.visible) l.initial.names.items (cond_syntax l.fn.cond)

abbrev pub decreases-nodes : goal.decreases-nodes
decreases-nodes l = length l.rest
