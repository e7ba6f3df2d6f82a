use Rattle.std.proofs.Common.{◌≡◌, [], length}
use Rattle.flow_text.specs.Scopes.{parameters_after}
use Rattle.flow_text.specs.ScopeViews.{scope_parts}
use Rattle.flow_syntax.specs.SyntaxViews.{tokens_syntax}
use Rattle.flow_text.proofs.known.parameter_sorts.Given as goal

-- the sorts so far, and those of the tokens that are left
abbrev pub invariant-tokens : goal.invariant-tokens
invariant-tokens l = parameters_after (scope_parts l.scope) l.sorts.items (tokens_syntax l.rest) ≡ parameters_after (scope_parts l.scope) [] (tokens_syntax l.fn.tokens)

abbrev pub decreases-tokens : goal.decreases-tokens
decreases-tokens l = length l.rest
