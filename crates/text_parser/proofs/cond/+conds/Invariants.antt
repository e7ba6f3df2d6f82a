use Rattle.std.proofs.Common.{◌≡◌, ◌+◌, ◌<◌, ◌≤◌, length, drop, ◌-◌, ◌*◌}
use Rattle.text_parser.specs.Lexemes.{lexemes}
use Rattle.text_parser.specs.Conds.{parse_cond, conjunction, conjunction_after, disjunction, disjunction_after}
use Rattle.text_parser.proofs.cond.+conds.Given as goal

abbrev pub decreases-literal : goal.decreases-literal
decreases-literal g l = 4 * (length l.toks.now - l.from)

abbrev pub decreases-negation : goal.decreases-negation
decreases-negation g l = 4 * (length l.toks.now - l.from) + 3

abbrev pub decreases-parenthesis : goal.decreases-parenthesis
decreases-parenthesis g l = 4 * (length l.toks.now - l.from) + 3

abbrev pub decreases-conjunction : goal.decreases-conjunction
decreases-conjunction g l = 4 * (length l.toks.now - l.from) + 1

abbrev pub decreases-parse_cond : goal.decreases-parse_cond
decreases-parse_cond g l = 4 * (length l.toks.now - l.from) + 2

abbrev pub invariant-conjunction-parts : goal.invariant-conjunction-parts
invariant-conjunction-parts g l = record {
  place : (l.from < l.at) × (l.at ≤ length l.toks);
  value : parse_cond (g.R.Reading.actions l.reading).conds (conjunction_after (g.R.Reading.conds l.list)) l.context (drop l.at (lexemes l.toks)) ≡ parse_cond (g.R.Reading.actions l.reading).conds conjunction l.context (drop l.from (lexemes l.toks));
}

abbrev pub decreases-conjunction-parts : goal.decreases-conjunction-parts
decreases-conjunction-parts g l = length l.toks - l.at

abbrev pub invariant-parse_cond-parts : goal.invariant-parse_cond-parts
invariant-parse_cond-parts g l = record {
  place : (l.from < l.at) × (l.at ≤ length l.toks);
  value : parse_cond (g.R.Reading.actions l.reading).conds (disjunction_after (g.R.Reading.conds l.list)) l.context (drop l.at (lexemes l.toks)) ≡ parse_cond (g.R.Reading.actions l.reading).conds disjunction l.context (drop l.from (lexemes l.toks));
}

abbrev pub decreases-parse_cond-parts : goal.decreases-parse_cond-parts
decreases-parse_cond-parts g l = length l.toks - l.at
