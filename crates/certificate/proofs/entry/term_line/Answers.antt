use Rattle.std.proofs.Common.{◌∙◌, sym, ap, subst}
use Rattle.line_format.specs.Readings.{texts, ReadsNumbers}
use Rattle.certificate.specs.Forms.{term_node_of}
use Rattle.certificate.proofs.EntryForms.{wide_term}
use Rattle.certificate.proofs.entry.term_line.Goals as goal

pub returns-then-numbers : goal.returns-then-numbers
returns-then-numbers c =
    let read = subst (ReadsNumbers (texts c.args.words.now)) c.in-Some.is c.in_ok-numbers.ensures in
    wide_term c.args.name.now (texts c.args.words.now) c.in-Some.numbers c.in-Some-term_node.node read.0 read.1
    (ap (term_node_of c.args.name.now) (sym c.deref.ensures.value) ∙ sym c.in-Some-term_node.ensures) c.if-numbers.true
