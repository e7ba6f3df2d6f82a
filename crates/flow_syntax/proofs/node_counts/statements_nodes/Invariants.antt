use Rattle.std.proofs.Common.{◌≡◌, min, take}
use Rattle.flow_syntax.specs.Sizes.{total, statement_nodes}
use Rattle.flow_syntax.specs.SyntaxViews.{statements_syntax}
use Rattle.flow_syntax.specs.declared.node_counts.TheConstants.{MOST}
use Rattle.flow_syntax.proofs.node_counts.statements_nodes.Given as goal

-- the last members
abbrev pub invariant-loop-statement : goal.invariant-loop-statement
invariant-loop-statement l = l.nodes ≡ min (total statement_nodes (statements_syntax (take l.statement-index l.statements))) MOST
