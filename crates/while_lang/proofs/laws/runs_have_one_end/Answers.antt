use Rattle.while_lang.proofs.Outcomes.{one_outcome}
use Rattle.while_lang.proofs.laws.runs_have_one_end.Goals as goal

pub returns : goal.returns
returns c w p s n h = one_outcome w p s n h
