use Rattle.std.proofs.Common.{◌≡◌, ◌++◌, map, take}
use Rattle.certificate.specs.declared.entry.Entry.TheVariants.{PairLine}
use Rattle.certificate.specs.Working.Writings.{entry_lines}
use Rattle.certificate.proofs.writing.put_pairs.Given as goal

-- the lines so far
abbrev pub invariant-loop-pair : goal.invariant-loop-pair
invariant-loop-pair l = l.out.items ≡ l.initial.out.items ++ entry_lines (map PairLine (take l.pair-index l.pairs))
