use Rattle.std.proofs.Common.{sym, ◌∙◌}
use Rattle.lrat_checker.proofs.WideNumbers.{unsigned_wide}
use Rattle.lrat_checker.proofs.words.unsigned.Goals as goal

pub returns-in-None : goal.returns-in-None
returns-in-None c = unsigned_wide c.args.word.now (sym c.is_numeral.ensures ∙ c.if-not-is_numeral.false) c.in-None.ensures.none
