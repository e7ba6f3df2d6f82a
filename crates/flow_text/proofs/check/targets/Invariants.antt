use Rattle.std.proofs.Common.{◌≡◌, [], length}
use Rattle.flow_text.specs.Checking.{targets_after}
use Rattle.flow_text.specs.ScopeViews.{sight_parts}
use Rattle.flow_syntax.specs.SyntaxViews.{tokens_syntax}
use Rattle.flow_text.proofs.check.targets.Given as goal

-- the targets so far, and those of the names that are left
abbrev pub invariant-names : goal.invariant-names
invariant-names l = targets_after (sight_parts l.visible_names) l.targets.items (tokens_syntax l.rest) ≡ targets_after (sight_parts l.visible_names) [] (tokens_syntax l.fn.names)

abbrev pub decreases-names : goal.decreases-names
decreases-names l = length l.rest
