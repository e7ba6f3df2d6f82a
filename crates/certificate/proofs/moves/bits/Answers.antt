use Rattle.std.proofs.Common.{sym, ◌∙◌}
use Rattle.certificate.proofs.MoveForms.{bits_read}
use Rattle.certificate.proofs.moves.bits.Goals as goal

pub returns : goal.returns
returns c =
    bits_read c.args.word.now c.of.result (sym c.is_empty.ensures ∙ c.if-is_empty.false) (sym c.all_bits.ensures ∙ c.if-not-all_bits.false) (c.of.ensures ∙ c.in_ok-values_of.ensures)
