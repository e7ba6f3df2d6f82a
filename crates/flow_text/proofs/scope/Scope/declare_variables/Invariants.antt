use Rattle.std.proofs.Common.{◌≡◌, length}
use Rattle.flow_text.specs.Scopes.{variables_declared}
use Rattle.flow_text.specs.ScopeViews.{scope_parts}
use Rattle.flow_syntax.specs.SyntaxViews.{tokens_syntax}
use Rattle.flow_text.proofs.scope.Scope.declare_variables.Given as goal

-- the names that are left are declared after those so far
abbrev pub invariant-names : goal.invariant-names
invariant-names l = variables_declared (scope_parts l.self) l.sort (tokens_syntax l.rest) ≡ variables_declared (scope_parts l.initial.self) l.sort (tokens_syntax l.fn.names)

abbrev pub decreases-names : goal.decreases-names
decreases-names l = length l.rest
