use Rattle.std.proofs.Common.{take}
use Rattle.walk_pairs.specs.Needed.{tests_of_pairs, AddsAll}
use Rattle.walk_pairs.proofs.needed.add_pair_tests.Given as goal

abbrev pub invariant-loop-pair : goal.invariant-loop-pair
invariant-loop-pair l = AddsAll l.initial.set.keys l.set.keys (tests_of_pairs (take l.pair-index l.pairs))
