use Rattle.std.proofs.Common.{ap, ◌∙◌}
use Rattle.flow_syntax.specs.SyntaxViews.{tokens_syntax}
use Rattle.flow_syntax.proofs.Stacked.{tokens_none}
use Rattle.flow_syntax.proofs.Taken.{tokens_held, no_tokens_held}
use Rattle.flow_syntax.proofs.value.Value.into_tokens.Goals as goal

pub returns-in-Tokens : goal.returns-in-Tokens
returns-in-Tokens c = tokens_held c.args.self c.in-Tokens.tokens c.in-Tokens.is

pub returns : goal.returns
returns c = ap tokens_syntax c.new.ensures.items ∙ tokens_none ∙ no_tokens_held c.args.self c.in_default.not-Tokens
