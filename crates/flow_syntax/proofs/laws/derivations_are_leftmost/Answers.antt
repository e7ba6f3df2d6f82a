use Rattle.flow_syntax.proofs.Leftmost.{derivation_leftmost}
use Rattle.flow_syntax.proofs.laws.derivations_are_leftmost.Goals as goal

pub returns : goal.returns
returns c = derivation_leftmost
