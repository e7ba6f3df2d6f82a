use Rattle.std.proofs.Common.{◌≡◌, map, take, length, false}
use Rattle.std.specs.List.{list_any}
use Rattle.line_format.specs.Numerals.{value_of, too_wide}
use Rattle.line_format.specs.Readings.{texts}
use Rattle.line_format.proofs.numerals.read_numbers.Given as goal

-- the numbers of the words so far
abbrev pub invariant-loop-word : goal.invariant-loop-word
invariant-loop-word l = record {
  count : length l.values.items ≡ l.word-index;
  wide : l.wide ≡ list_any too_wide (map value_of (texts (take l.word-index l.words)));
  values : l.wide ≡ false → l.values.items ≡ map value_of (texts (take l.word-index l.words));
}
