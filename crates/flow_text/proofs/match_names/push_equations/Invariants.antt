use Rattle.std.proofs.Common.{◌≡◌, length}
use Rattle.flow_syntax.specs.SyntaxViews.{equations_syntax}
use Rattle.flow_text.specs.ScopeViews.{sight_parts}
use Rattle.flow_text.proofs.MatchNameSteps.{with_equations}
use Rattle.flow_text.proofs.match_names.push_equations.Given as goal

-- the names so far, and those of the equations that are left
abbrev pub invariant-written : goal.invariant-written
invariant-written l = with_equations (sight_parts l.visible) l.part l.names.items (equations_syntax l.rest) ≡ with_equations (sight_parts l.visible) l.part l.initial.names.items (equations_syntax l.fn.equations)

abbrev pub decreases-written : goal.decreases-written
decreases-written l = length l.rest
