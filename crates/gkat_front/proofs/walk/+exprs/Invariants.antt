use Rattle.std.proofs.Common.{◌≡◌, ◌+◌, ◌≤◌, ◌<◌, length, drop, ◌-◌, ◌*◌}
use Rattle.text_parser.specs.Lexemes.{lexemes}
use Rattle.gkat_front.specs.GkatWalks.{factors_after, parse_gkat}
use Rattle.gkat_front.proofs.walk.+exprs.Given as goal

abbrev pub decreases-read_expr : goal.decreases-read_expr
decreases-read_expr g l = 6 * (length l.toks.now - l.from) + 4

abbrev pub decreases-product : goal.decreases-product
decreases-product g l = 6 * (length l.toks.now - l.from) + 3

abbrev pub decreases-factor : goal.decreases-factor
decreases-factor g l = 6 * (length l.toks.now - l.from) + 2

abbrev pub decreases-unit : goal.decreases-unit
decreases-unit g l = 6 * (length l.toks.now - l.from) + 1

abbrev pub decreases-round : goal.decreases-round
decreases-round g l = 6 * (length l.toks.now - l.from)

abbrev pub invariant-product-factors : goal.invariant-product-factors
invariant-product-factors g l = record {
  place : l.from < l.at;
  within : l.at ≤ length l.toks;
  value : parse_gkat (g.R.GkatReading.actions l.reading) (factors_after (g.R.GkatReading.factors l.list)) l.depth (drop l.at (lexemes l.toks)) ≡ parse_gkat (g.R.GkatReading.actions l.reading) (factors_after (g.R.GkatReading.factors l.initial.list)) l.depth (drop l.initial.at (lexemes l.toks));
}

abbrev pub decreases-product-factors : goal.decreases-product-factors
decreases-product-factors g l = length l.toks - l.at
