use Rattle.std.proofs.Common.{take}
use Rattle.kat_model.specs.Members.{IsSubset}
use Rattle.walk_pairs.specs.Needed.{AddsAll}
use Rattle.walk_pairs.proofs.needed.add_all.Given as goal

abbrev pub invariant-loop-term : goal.invariant-loop-term
invariant-loop-term l = record {
  added : AddsAll l.initial.set.keys l.set.keys (take l.term-index l.terms);
  kept : IsSubset l.initial.set.keys l.set.keys;
}
