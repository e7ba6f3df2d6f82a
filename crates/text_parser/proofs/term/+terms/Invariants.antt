use Rattle.std.proofs.Common.{◌≡◌, ◌+◌, ◌<◌, ◌≤◌, length, drop, ◌-◌, ◌*◌}
use Rattle.text_parser.specs.Lexemes.{lexemes}
use Rattle.text_parser.specs.Terms.{parse_term, sequence, sequence_after, choice, choice_after}
use Rattle.text_parser.proofs.term.+terms.Given as goal

abbrev pub decreases-unit : goal.decreases-unit
decreases-unit g l = 4 * (length l.toks.now - l.from)

abbrev pub decreases-negation : goal.decreases-negation
decreases-negation g l = 4 * (length l.toks.now - l.from) + 3

abbrev pub decreases-parenthesis : goal.decreases-parenthesis
decreases-parenthesis g l = 4 * (length l.toks.now - l.from) + 3

abbrev pub decreases-sequence : goal.decreases-sequence
decreases-sequence g l = 4 * (length l.toks.now - l.from) + 1

abbrev pub decreases-parse_term : goal.decreases-parse_term
decreases-parse_term g l = 4 * (length l.toks.now - l.from) + 2

abbrev pub invariant-sequence-parts : goal.invariant-sequence-parts
invariant-sequence-parts g l = record {
  place : (l.from < l.at) × (l.at ≤ length l.toks);
  value : parse_term (g.R.Reading.actions l.reading) (sequence_after (g.R.Reading.terms l.list)) l.context (drop l.at (lexemes l.toks)) ≡ parse_term (g.R.Reading.actions l.reading) sequence l.context (drop l.from (lexemes l.toks));
}

abbrev pub decreases-sequence-parts : goal.decreases-sequence-parts
decreases-sequence-parts g l = length l.toks - l.at

abbrev pub invariant-parse_term-parts : goal.invariant-parse_term-parts
invariant-parse_term-parts g l = record {
  place : (l.from < l.at) × (l.at ≤ length l.toks);
  value : parse_term (g.R.Reading.actions l.reading) (choice_after (g.R.Reading.terms l.list)) l.context (drop l.at (lexemes l.toks)) ≡ parse_term (g.R.Reading.actions l.reading) choice l.context (drop l.from (lexemes l.toks));
}

abbrev pub decreases-parse_term-parts : goal.decreases-parse_term-parts
decreases-parse_term-parts g l = length l.toks - l.at
