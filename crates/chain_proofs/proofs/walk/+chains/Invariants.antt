use Rattle.std.proofs.Common.{◌≡◌, ◌+◌, ◌≤◌, ◌<◌, length, drop, ◌-◌, ◌*◌}
use Rattle.text_parser.specs.Lexemes.{lexemes}
use Rattle.chain_proofs.specs.ChainWalks.{lines_after, parse_chain}
use Rattle.chain_proofs.proofs.walk.+chains.Given as goal

abbrev pub decreases-read_chain : goal.decreases-read_chain
decreases-read_chain g l = 4 * (length l.toks.now - l.from)

abbrev pub decreases-line : goal.decreases-line
decreases-line g l = 4 * (length l.toks.now - l.from) + 2

abbrev pub decreases-inner_chain : goal.decreases-inner_chain
decreases-inner_chain g l = 4 * (length l.toks.now - l.from) + 2

abbrev pub decreases-braces : goal.decreases-braces
decreases-braces g l = 4 * (length l.toks.now - l.from) + 1

abbrev pub invariant-read_chain-lines : goal.invariant-read_chain-lines
invariant-read_chain-lines g l = record {
  place : l.from < l.at;
  within : l.at ≤ length l.toks;
  value : parse_chain (g.R.ChainReading.actions l.reading) (lines_after (g.R.ChainReading.chain l.list) (g.R.ChainReading.size l.all)) l.depth (drop l.at (lexemes l.toks)) ≡ parse_chain (g.R.ChainReading.actions l.reading) (lines_after (g.R.ChainReading.chain l.initial.list) (g.R.ChainReading.size l.initial.all)) l.depth (drop l.initial.at (lexemes l.toks));
}

abbrev pub decreases-read_chain-lines : goal.decreases-read_chain-lines
decreases-read_chain-lines g l = length l.toks - l.at
