use Rattle.flow_syntax.proofs.Taken.{token_held, no_token_held}
use Rattle.flow_syntax.proofs.value.Value.into_token.Goals as goal

pub returns-in-Token : goal.returns-in-Token
returns-in-Token c = token_held c.args.self c.in-Token.token c.in-Token.is

pub returns : goal.returns
returns c = no_token_held c.args.self c.in_default.not-Token
