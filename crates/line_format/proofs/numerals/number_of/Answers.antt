use Rattle.std.proofs.Common.{◌<◌, ◌^◌, sym, subst}
use Rattle.std.proofs.lemmas.Result.{OkIff-at_ok, OkIff-at_err}
use Rattle.line_format.proofs.NumeralValues.{numeral_parse, numeral_utf8, numeral_digits, wide_from}
use Rattle.line_format.proofs.numerals.number_of.Goals as goal

pub returns-in-Err-clause-none : goal.returns-in-Err-clause-none
returns-in-Err-clause-none c = absurd (c.in-Err.ensures.cases.0 (numeral_utf8 _ c.requires))

pub returns-in-Ok-parse-clause-some : goal.returns-in-Ok-parse-clause-some
returns-in-Ok-parse-clause-some c =
    let parsed = OkIff-at_ok _ _ _ _ (numeral_parse c.args.word.now c.in-Ok.text.now c.parse.result c.in-Ok.ensures.cases.0 c.requires c.parse.ensures.value.0) c.in-Ok-parse.is in
    (parsed.1, subst (λ n. n < 2 ^ 64) (sym parsed.1) parsed.0.1)

pub returns-in-Err-parse-clause-none : goal.returns-in-Err-parse-clause-none
returns-in-Err-parse-clause-none c =
    wide_from _ _ (numeral_digits c.args.word.now c.requires).1
    (OkIff-at_err _ _ _ _ (numeral_parse c.args.word.now c.in-Ok.text.now c.parse.result c.in-Ok.ensures.cases.0 c.requires c.parse.ensures.value.0) c.in-Err-parse.is)
