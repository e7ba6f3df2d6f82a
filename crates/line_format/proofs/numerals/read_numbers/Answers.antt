use Rattle.std.proofs.Common.{◌∙◌, sym, arith}
use Rattle.std.proofs.lemmas.List.Folds.{list_all-map}
use Rattle.line_format.proofs.ReadNumbers.{numbers_given}
use Rattle.line_format.specs.Numerals.{is_numeral}
use Rattle.line_format.proofs.numerals.read_numbers.Goals as goal

pub returns-then-not-all_numerals : goal.returns-then-not-all_numerals
returns-then-not-all_numerals c = list_all-map is_numeral _ c.args.words.now ∙ sym c.all_numerals.ensures ∙ c.if-not-all_numerals.true

pub returns : goal.returns
returns c = (
  list_all-map is_numeral _ c.args.words.now ∙ sym c.all_numerals.ensures ∙ c.if-not-all_numerals.false,
  numbers_given c.args.words.now c.loop-word.word-index _ (omega arith) (omega arith) c.loop-word.invariant.count c.loop-word.invariant.wide c.loop-word.invariant.values,
)
