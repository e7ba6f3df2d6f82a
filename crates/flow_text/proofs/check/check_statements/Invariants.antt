use Rattle.std.proofs.Common.{◌≡◌, [], length, map}
use Rattle.flow_text.specs.Trees.{statement_of}
use Rattle.flow_text.specs.Checking.{statements_after}
use Rattle.flow_text.specs.ScopeViews.{sight_parts}
use Rattle.flow_syntax.specs.SyntaxViews.{statements_syntax}
use Rattle.flow_text.proofs.check.check_statements.Given as goal

-- the statements so far, and those that are left
abbrev pub invariant-statements : goal.invariant-statements
invariant-statements l = statements_after (sight_parts l.visible_names) (map statement_of l.checked.items) (statements_syntax l.rest) ≡ statements_after (sight_parts l.visible_names) [] (statements_syntax l.fn.statements)

abbrev pub decreases-statements : goal.decreases-statements
decreases-statements l = length l.rest
