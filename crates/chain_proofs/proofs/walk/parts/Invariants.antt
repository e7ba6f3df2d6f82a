use Rattle.std.proofs.Common.{◌≡◌, ◌≤◌, length, drop, ◌-◌}
use Rattle.text_parser.specs.Lexemes.{lexemes}
use Rattle.chain_proofs.specs.ChainWalks.{parts_by}
use Rattle.chain_proofs.proofs.walk.parts.Given as goal

abbrev pub invariant-parts : goal.invariant-parts
invariant-parts g l = record {
  place : l.from ≤ l.at;
  within : l.from ≤ length l.toks → l.at ≤ length l.toks;
  value : parts_by (g.R.ChainReading.actions l.reading) (g.R.ChainReading.path l.path) (drop l.at (lexemes l.toks)) ≡ parts_by (g.R.ChainReading.actions l.reading) (g.R.ChainReading.path l.initial.path) (drop l.from (lexemes l.toks));
}

abbrev pub decreases-parts : goal.decreases-parts
decreases-parts g l = length l.toks - l.at
