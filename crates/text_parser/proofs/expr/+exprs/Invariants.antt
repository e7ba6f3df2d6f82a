use Rattle.std.proofs.Common.{◌≡◌, ◌+◌, ◌<◌, ◌≤◌, length, drop, ◌-◌, ◌*◌}
use Rattle.text_parser.specs.Lexemes.{lexemes}
use Rattle.text_parser.specs.Exprs.{parse_expr, sums, sums_after, products, products_after}
use Rattle.text_parser.proofs.expr.+exprs.Given as goal

abbrev pub decreases-factor : goal.decreases-factor
decreases-factor g l = 4 * (length l.toks.now - l.from)

abbrev pub decreases-parenthesis : goal.decreases-parenthesis
decreases-parenthesis g l = 4 * (length l.toks.now - l.from) + 3

abbrev pub decreases-product : goal.decreases-product
decreases-product g l = 4 * (length l.toks.now - l.from) + 1

abbrev pub decreases-parse_expr : goal.decreases-parse_expr
decreases-parse_expr g l = 4 * (length l.toks.now - l.from) + 2

abbrev pub invariant-product-parts : goal.invariant-product-parts
invariant-product-parts g l = record {
  place : (l.from < l.at) × (l.at ≤ length l.toks);
  value : parse_expr (g.R.Reading.actions l.reading).conds.exprs (products_after (g.R.Reading.expr l.all)) l.context (drop l.at (lexemes l.toks)) ≡ parse_expr (g.R.Reading.actions l.reading).conds.exprs products l.context (drop l.from (lexemes l.toks));
}

abbrev pub decreases-product-parts : goal.decreases-product-parts
decreases-product-parts g l = length l.toks - l.at

abbrev pub invariant-parse_expr-parts : goal.invariant-parse_expr-parts
invariant-parse_expr-parts g l = record {
  place : (l.from < l.at) × (l.at ≤ length l.toks);
  value : parse_expr (g.R.Reading.actions l.reading).conds.exprs (sums_after (g.R.Reading.expr l.all)) l.context (drop l.at (lexemes l.toks)) ≡ parse_expr (g.R.Reading.actions l.reading).conds.exprs sums l.context (drop l.from (lexemes l.toks));
}

abbrev pub decreases-parse_expr-parts : goal.decreases-parse_expr-parts
decreases-parse_expr-parts g l = length l.toks - l.at
