use Rattle.std.proofs.Common.{◌≡◌, ◌++◌, map, take}
use Rattle.std.specs.Fmt.{decimal}
use Rattle.line_format.specs.Lines.{after_blanks}
use Rattle.line_format.proofs.writing.put_numbers.Given as goal

-- the numbers so far
abbrev pub invariant-loop-number : goal.invariant-loop-number
invariant-loop-number l = l.out.items ≡ l.initial.out.items ++ after_blanks (map decimal (take l.number-index l.numbers))
