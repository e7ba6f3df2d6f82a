use Rattle.std.proofs.Common.{◌++◌, ap, ◌∙◌}
use Rattle.partial_derivs.proofs.Items.{has_item}
use Rattle.walk_pairs.specs.Numbering.{number_of, numbers_of}
use Rattle.walk_pairs.proofs.NamedTests.{mapped_next, mapped_last}
use Rattle.walk_pairs.proofs.cert.numbers.Goals as goal

pub loop-term-init : goal.loop-term-init
loop-term-init c = ap (λ l. l ++ numbers_of c.args.terms.now.keys c.args.set.now) c.new-list.ensures.items

pub term_number-requires : goal.term_number-requires
term_number-requires c = c.requires c.term-item.result (has_item c.args.set.now c.loop-term.term-index c.term-item.result c.loop-term-test.true c.term-item.is)

pub loop-term-preserved : goal.loop-term-preserved
loop-term-preserved c =
    mapped_next (number_of c.args.terms.now.keys) c.args.set.now c.loop-term.term-index c.term-item.result c.term_number.result c.loop-term.list.items c.push.new.self.items _ c.loop-term-test.true c.term-item.is c.term_number.ensures c.in_ok-push.ensures.items c.loop-term.invariant

pub returns : goal.returns
returns c = c.of.ensures ∙ mapped_last (number_of c.args.terms.now.keys) c.args.set.now c.loop-term.term-index c.loop-term.list.items _ c.loop-term-test.false c.loop-term.invariant
