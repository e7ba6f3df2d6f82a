use Rattle.std.proofs.Common.{◌≡◌, ◌++◌, drop, map}
use Rattle.walk_pairs.specs.Numbering.{number_pair_of}
use Rattle.walk_pairs.proofs.cert.number_pairs.Given as goal

abbrev pub invariant-loop-pair : goal.invariant-loop-pair
invariant-loop-pair l = l.list.items ++ map (number_pair_of l.tests.keys l.terms.keys) (drop l.pair-index l.pairs) ≡ map (number_pair_of l.tests.keys l.terms.keys) l.pairs
