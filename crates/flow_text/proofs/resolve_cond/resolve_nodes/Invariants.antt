use Rattle.std.proofs.Common.{◌≡◌, [], length, map}
use Rattle.flow_text.specs.Trees.{cond_part}
use Rattle.flow_text.specs.Resolving.{parts_after}
use Rattle.flow_text.specs.ScopeViews.{sight_parts}
use Rattle.flow_syntax.specs.SyntaxViews.{cond_syntax}
use Rattle.flow_text.proofs.resolve_cond.resolve_nodes.Given as goal

-- the nodes so far, and those that are left
abbrev pub invariant-nodes : goal.invariant-nodes
invariant-nodes l = parts_after (sight_parts l.visible_names) (map cond_part l.nodes.items) (cond_syntax l.rest) ≡ parts_after (sight_parts l.visible_names) [] (cond_syntax l.fn.cond)

abbrev pub decreases-nodes : goal.decreases-nodes
decreases-nodes l = length l.rest
