use Rattle.walk_pairs.proofs.TrueAtoms.{IsRest}
use Rattle.walk_pairs.proofs.outputs.true_atom.Given as goal

abbrev pub invariant-loop-test : goal.invariant-loop-test
invariant-loop-test l = IsRest l.fn.diagrams l.fn.id l.diagrams l.rest l.atom.items l.test
