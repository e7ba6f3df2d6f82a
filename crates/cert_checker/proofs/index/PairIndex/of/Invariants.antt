use Rattle.cert_checker.specs.Indices.{AreIndexedTo}
use Rattle.cert_checker.proofs.index.PairIndex.of.Given as goal

abbrev pub invariant-loop-place : goal.invariant-loop-place
invariant-loop-place l = AreIndexedTo l.place l.index l.pairs
