use Rattle.std.proofs.Common.{sym, ◌∙◌}
use Rattle.line_format.specs.Readings.{texts}
use Rattle.certificate.proofs.MoveForms.{wide_move}
use Rattle.certificate.proofs.moves.move_from.Goals as goal

pub returns-in-None : goal.returns-in-None
returns-in-None c =
    wide_move c.args.act.now (texts c.args.words.now) c.in-Some.atom (sym c.is_numeral.ensures ∙ c.if-not-is_numeral.false) (sym c.in-Some.is ∙ c.in_ok-atom.ensures) c.in-None.ensures.none
