use Rattle.std.proofs.Common.{◌≡◌, [], length}
use Rattle.flow_text.specs.Checking.{equations_after}
use Rattle.flow_text.specs.MatchViews.{equations_of}
use Rattle.flow_text.specs.ScopeViews.{sight_parts}
use Rattle.flow_syntax.specs.SyntaxViews.{equations_syntax}
use Rattle.flow_text.proofs.matches.equations.Given as goal

-- the equations so far, and those that are left
abbrev pub invariant-written : goal.invariant-written
invariant-written l = equations_after (sight_parts l.visible_names) (equations_of l.equations.items) (equations_syntax l.rest) ≡ equations_after (sight_parts l.visible_names) [] (equations_syntax l.fn.written)

abbrev pub decreases-written : goal.decreases-written
decreases-written l = length l.rest
