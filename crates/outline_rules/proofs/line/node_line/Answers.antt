use Rattle.std.proofs.Common.{◌∙◌, sym, ap, subst}
use Rattle.line_format.specs.Readings.{texts, ReadsNumbers}
use Rattle.outline_rules.specs.Forms.{node_of}
use Rattle.outline_rules.proofs.NoteForms.{wide_node}
use Rattle.outline_rules.proofs.line.node_line.Goals as goal

pub returns-then-numbers : goal.returns-then-numbers
returns-then-numbers c =
    let read = subst (ReadsNumbers (texts c.args.words.now)) c.in-Some.is c.in_ok-numbers.ensures in
    wide_node c.args.name.now (texts c.args.words.now) c.in-Some.numbers c.in-Some-node.node read.0 read.1
    (ap (node_of c.args.name.now) (sym c.deref.ensures.value) ∙ sym c.in-Some-node.ensures) c.if-numbers.true
