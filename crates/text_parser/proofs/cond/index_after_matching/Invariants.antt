use Rattle.std.proofs.Common.{◌≡◌, drop, ◌≤◌}
use Rattle.text_parser.specs.Lexemes.{lexemes}
use Rattle.text_parser.specs.Conds.{index_after_matching}
use Rattle.text_parser.proofs.cond.index_after_matching.Given as goal

abbrev pub invariant-loop-i : goal.invariant-loop-i
invariant-loop-i l = (l.open ≤ l.i) × (index_after_matching l.open (drop l.i (lexemes l.toks)) ≡ index_after_matching 0 (drop l.from (lexemes l.toks)))
