use Rattle.std.proofs.Common.{◌≡◌, ◌+◌, ◌≤◌, length, drop, ◌-◌, ◌*◌}
use Rattle.text_parser.specs.Lexemes.{lexemes}
use Rattle.while_lang.specs.Blocks.{stmts_after, parse_block}
use Rattle.while_lang.proofs.blocks.+blocks.Given as goal

abbrev pub decreases-read_block : goal.decreases-read_block
decreases-read_block g l = 4 * (length l.toks.now - l.from)

abbrev pub decreases-stmts : goal.decreases-stmts
decreases-stmts g l = 4 * (length l.toks.now - l.from) + 1

abbrev pub decreases-stmt : goal.decreases-stmt
decreases-stmt g l = 4 * (length l.toks.now - l.from)

abbrev pub decreases-turn : goal.decreases-turn
decreases-turn g l = 4 * (length l.toks.now - l.from)

abbrev pub decreases-branch : goal.decreases-branch
decreases-branch g l = 4 * (length l.toks.now - l.from)

abbrev pub decreases-otherwise : goal.decreases-otherwise
decreases-otherwise g l = 4 * (length l.toks.now - l.from)

abbrev pub invariant-stmts-stmts : goal.invariant-stmts-stmts
invariant-stmts-stmts g l = record {
  place : l.from ≤ l.at;
  value : parse_block (g.R.BlockReading.actions l.reading) (stmts_after (g.R.BlockReading.stmts l.list)) l.depth (drop l.at (lexemes l.toks)) ≡ parse_block (g.R.BlockReading.actions l.reading) (stmts_after (g.R.BlockReading.actions l.reading).none) l.depth (drop l.from (lexemes l.toks));
}

abbrev pub decreases-stmts-stmts : goal.decreases-stmts-stmts
decreases-stmts-stmts g l = length l.toks - l.at
