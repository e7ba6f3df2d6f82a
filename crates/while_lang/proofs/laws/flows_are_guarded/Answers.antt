use Rattle.while_lang.proofs.GuardedFlows.{encoded_guarded}
use Rattle.while_lang.proofs.laws.flows_are_guarded.Goals as goal

pub returns : goal.returns
returns c f = encoded_guarded f
