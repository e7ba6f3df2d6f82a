use Rattle.std.proofs.Common.{◌∙◌, ℕ, List, map, ap, subst}
use Rattle.std.specs.Borrow.{Bor}
use Rattle.std.specs.Option.{option_map}
use Rattle.line_format.specs.Numerals.{numbers_of}
use Rattle.line_format.specs.Readings.{texts}
use Rattle.certificate.specs.declared.entry.Entry.TheVariants.{PairLine}
use Rattle.certificate.specs.Forms.{pair_with}
use Rattle.certificate.specs.Working.Readings.{ReadsEntry}
use Rattle.certificate.proofs.PairForms.{parts_numbers}
use Rattle.certificate.proofs.entry.pair_line.Goals as goal

pub returns : goal.returns
returns c =
    subst (λ parts. ReadsEntry (option_map PairLine (pair_with parts)) c.pair_of_parts.result)
    (ap (map (λ (part : Bor (List (Bor (List ℕ)))). numbers_of (texts part.now))) c.as_slice.ensures.value ∙ parts_numbers _ c.args.words.now c.in_ok-parts.ensures) c.pair_of_parts.ensures
