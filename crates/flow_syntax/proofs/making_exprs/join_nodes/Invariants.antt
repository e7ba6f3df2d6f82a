use Rattle.std.proofs.Common.{◌≡◌, length}
use Rattle.flow_syntax.specs.Actions.{joined}
use Rattle.flow_syntax.specs.SyntaxViews.{tokens_syntax, expr_syntax}
use Rattle.flow_syntax.proofs.making_exprs.join_nodes.Given as goal

-- the operators that are left are put before the nodes so far
abbrev pub invariant-operators : goal.invariant-operators
invariant-operators l =
    joined (tokens_syntax l.operators.items) (expr_syntax l.nodes.items) ≡ joined (tokens_syntax l.initial.operators.items) (expr_syntax l.initial.nodes.items)

abbrev pub decreases-operators : goal.decreases-operators
decreases-operators l = length l.operators.items
