use Rattle.std.proofs.Common.{◌≤◌, ◌-◌}
use Rattle.text_parser.specs.Lexemes.{lexemes}
use Rattle.problem_file.proofs.NumberChecks.{NumbersLeft}
use Rattle.problem_file.proofs.making.check_numbers.Given as goal

-- the tokens so far contain no number that is too wide
abbrev pub invariant-numbers : goal.invariant-numbers
invariant-numbers l = (l.at ≤ l.end) × NumbersLeft l.width (lexemes l.toks) l.from l.at l.end

abbrev pub decreases-numbers : goal.decreases-numbers
decreases-numbers l = l.end - l.at
