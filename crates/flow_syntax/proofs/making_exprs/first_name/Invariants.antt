use Rattle.std.proofs.Common.{◌≡◌, take}
use Rattle.flow_syntax.specs.Actions.{first_name}
use Rattle.flow_syntax.specs.SyntaxViews.{first_syntax, expr_syntax}
use Rattle.flow_syntax.proofs.making_exprs.first_name.Given as goal

-- the first name of the last nodes
abbrev pub invariant-loop-node : goal.invariant-loop-node
invariant-loop-node l = first_syntax l.first ≡ first_name (expr_syntax (take l.node-index l.nodes))
