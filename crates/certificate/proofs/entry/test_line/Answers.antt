use Rattle.std.proofs.Common.{◌∙◌, sym, ap, subst}
use Rattle.line_format.specs.Readings.{texts, ReadsNumbers}
use Rattle.certificate.specs.Forms.{test_node_of}
use Rattle.certificate.proofs.EntryForms.{wide_test}
use Rattle.certificate.proofs.entry.test_line.Goals as goal

pub returns-then-numbers : goal.returns-then-numbers
returns-then-numbers c =
    let read = subst (ReadsNumbers (texts c.args.words.now)) c.in-Some.is c.in_ok-numbers.ensures in
    wide_test c.args.name.now (texts c.args.words.now) c.in-Some.numbers c.in-Some-test_node.node read.0 read.1
    (ap (test_node_of c.args.name.now) (sym c.deref.ensures.value) ∙ sym c.in-Some-test_node.ensures) c.if-numbers.true
