use Rattle.flow_syntax.proofs.Taken.{match_held, no_match_held}
use Rattle.flow_syntax.proofs.value.Value.into_match.Goals as goal

pub returns-in-Match : goal.returns-in-Match
returns-in-Match c = match_held c.args.self c.in-Match.matched c.in-Match.is

pub returns : goal.returns
returns c = no_match_held c.args.self c.in_default.not-Match
