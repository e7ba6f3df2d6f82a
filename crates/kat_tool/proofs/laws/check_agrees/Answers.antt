use Rattle.kat_tool.proofs.Calls.{check_agrees}
use Rattle.kat_tool.proofs.laws.check_agrees.Goals as goal

pub returns : goal.returns
returns c = check_agrees
