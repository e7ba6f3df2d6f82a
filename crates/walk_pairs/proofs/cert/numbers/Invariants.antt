use Rattle.std.proofs.Common.{◌≡◌, ◌++◌, drop}
use Rattle.walk_pairs.specs.Numbering.{numbers_of}
use Rattle.walk_pairs.proofs.cert.numbers.Given as goal

abbrev pub invariant-loop-term : goal.invariant-loop-term
invariant-loop-term l = l.list.items ++ numbers_of l.terms.keys (drop l.term-index l.set) ≡ numbers_of l.terms.keys l.set
