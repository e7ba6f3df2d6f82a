use Rattle.std.proofs.Common.{take}
use Rattle.walk_pairs.specs.Needed.{NamesTests}
use Rattle.walk_pairs.proofs.needed.tests_of.Given as goal

abbrev pub invariant-loop-term : goal.invariant-loop-term
invariant-loop-term l = NamesTests l.store (take l.term-index l.ids) l.set.keys
