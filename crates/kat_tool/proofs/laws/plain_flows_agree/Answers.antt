use Rattle.kat_tool.proofs.FlowAgreement.{plain_flows_agree}
use Rattle.kat_tool.proofs.laws.plain_flows_agree.Goals as goal

pub returns : goal.returns
returns c = plain_flows_agree
