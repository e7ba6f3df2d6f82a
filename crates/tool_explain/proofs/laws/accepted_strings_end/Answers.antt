use Rattle.tool_explain.proofs.Accepted.{accepted_ends}
use Rattle.tool_explain.proofs.laws.accepted_strings_end.Goals as goal

pub returns : goal.returns
returns c = accepted_ends
