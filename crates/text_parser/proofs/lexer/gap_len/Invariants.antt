use Rattle.std.proofs.Common.{◌≡◌, ◌+◌, drop, false}
use Rattle.text_parser.specs.Lex.{gap_len}
use Rattle.text_parser.proofs.lexer.gap_len.Given as goal

abbrev pub invariant-loop-i : goal.invariant-loop-i
invariant-loop-i l = l.i + gap_len l.in_comment (drop l.i l.bytes) ≡ gap_len false l.bytes
