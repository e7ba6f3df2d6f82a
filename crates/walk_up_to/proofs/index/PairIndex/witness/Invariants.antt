use Rattle.kat_model.specs.Members.{Has}
use Rattle.walk_up_to.proofs.index.PairIndex.witness.Given as goal

abbrev pub invariant-loop-term : goal.invariant-loop-term
invariant-loop-term l = Has l.set l.witness
