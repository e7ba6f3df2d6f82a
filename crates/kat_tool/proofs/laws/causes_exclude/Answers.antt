use Rattle.kat_tool.proofs.Calls.{causes_exclude}
use Rattle.kat_tool.proofs.laws.causes_exclude.Goals as goal

pub returns : goal.returns
returns c = causes_exclude
