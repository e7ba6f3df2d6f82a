use Rattle.std.proofs.Common.{◌≡◌, take}
use Rattle.flow_syntax.specs.Sizes.{all_pass, statement_short}
use Rattle.flow_syntax.specs.SyntaxViews.{statements_syntax}
use Rattle.flow_syntax.proofs.node_counts.are_statements_short.Given as goal

-- the last members
abbrev pub invariant-loop-statement : goal.invariant-loop-statement
invariant-loop-statement l = l.short ≡ all_pass statement_short (statements_syntax (take l.statement-index l.statements))
