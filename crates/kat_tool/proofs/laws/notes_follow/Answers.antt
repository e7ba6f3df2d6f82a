use Rattle.kat_tool.proofs.Calls.{notes_follow}
use Rattle.kat_tool.proofs.laws.notes_follow.Goals as goal

pub returns : goal.returns
returns c = notes_follow
