use Rattle.std.proofs.Common.{◌∙◌, sym, ap, subst}
use Rattle.line_format.specs.Readings.{texts, ReadsNumbers}
use Rattle.outline_rules.specs.Forms.{note_of}
use Rattle.outline_rules.proofs.NoteForms.{wide_note}
use Rattle.outline_rules.proofs.line.note_line.Goals as goal

pub returns-then-numbers : goal.returns-then-numbers
returns-then-numbers c =
    let read = subst (ReadsNumbers (texts c.args.words.now)) c.in-Some.is c.in_ok-numbers.ensures in
    wide_note (texts c.args.words.now) c.in-Some.numbers c.in-Some-note.line read.0 read.1
    (ap note_of (sym c.deref.ensures.value) ∙ sym c.in-Some-note.ensures) c.if-numbers.true
