use Rattle.kat_tool.proofs.FlowAgreement.{flows_agree}
use Rattle.kat_tool.proofs.laws.flows_agree.Goals as goal

pub returns : goal.returns
returns c = flows_agree
