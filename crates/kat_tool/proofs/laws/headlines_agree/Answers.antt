use Rattle.kat_tool.proofs.HeadlineAgreement.{headlines_agree}
use Rattle.kat_tool.proofs.laws.headlines_agree.Goals as goal

pub returns : goal.returns
returns c = headlines_agree
