use Rattle.std.proofs.Common.{◌≡◌, ◌++◌, map, take}
use Rattle.certificate.specs.declared.entry.Entry.TheVariants.{TestLine}
use Rattle.certificate.specs.Working.Writings.{entry_lines}
use Rattle.certificate.proofs.writing.put_tests.Given as goal

-- the lines so far
abbrev pub invariant-loop-node : goal.invariant-loop-node
invariant-loop-node l = l.out.items ≡ l.initial.out.items ++ entry_lines (map TestLine (take l.node-index l.nodes))
