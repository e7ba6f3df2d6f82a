use Rattle.std.proofs.Common.{◌≡◌, length}
use Rattle.flow_syntax.specs.SyntaxViews.{tokens_syntax}
use Rattle.flow_text.proofs.NameSteps.{with_names}
use Rattle.flow_text.proofs.declared_names.push_names.Given as goal

-- the names so far, and those of the tokens that are left
abbrev pub invariant-tokens : goal.invariant-tokens
invariant-tokens l = with_names l.names.items (tokens_syntax l.rest) ≡ with_names l.initial.names.items (tokens_syntax l.fn.tokens)

abbrev pub decreases-tokens : goal.decreases-tokens
decreases-tokens l = length l.rest
