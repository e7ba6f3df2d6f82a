use Rattle.std.proofs.Common.{◌≡◌, ◌++◌, map, take}
use Rattle.outline_rules.specs.declared.line.NoteLine.TheVariants.{Note}
use Rattle.outline_rules.specs.Working.Writings.{lines_text}
use Rattle.outline_rules.proofs.writing.put_notes.Given as goal

-- the output has the lines of the notes so far
abbrev pub invariant-loop-node : goal.invariant-loop-node
invariant-loop-node l = l.out.items ≡ l.initial.out.items ++ lines_text (map Note (take l.node-index l.notes))
