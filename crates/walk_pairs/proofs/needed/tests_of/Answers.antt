use Rattle.std.proofs.Common.{subst, arith}
use Rattle.kat_model.specs.Members.{Has}
use Rattle.partial_derivs.proofs.Items.{has_item}
use Rattle.walk_pairs.proofs.NamedTests.{names_first, names_next, names_last}
use Rattle.walk_pairs.proofs.needed.tests_of.Goals as goal

pub loop-term-init : goal.loop-term-init
loop-term-init c = names_first c.args.store.now c.as_slice-ids.result.now c.new-set.result.keys c.new-set.ensures.empty

pub shape-requires : goal.shape-requires
shape-requires c =
    c.requires c.term-item.result (subst (λ l. Has l c.term-item.result) c.as_slice-ids.ensures.keys (has_item c.as_slice-ids.result.now c.loop-term.term-index c.term-item.result c.loop-term-test.true c.term-item.is))

pub loop-term-preserved : goal.loop-term-preserved
loop-term-preserved c =
    names_next c.args.store.now c.as_slice-ids.result.now c.loop-term.set.keys c.add_tests.new.set.keys c.loop-term.term-index c.term-item.result c.shape.result c.loop-term-test.true c.term-item.is c.shape.ensures.value c.in_ok-add_tests.ensures
    c.loop-term.invariant

pub returns : goal.returns
returns c = names_last c.args.store.now c.as_slice-ids.result.now c.args.terms.now.keys c.loop-term.set.keys c.loop-term.term-index c.as_slice-ids.ensures.keys (omega (arith, c.loop-term-test.false)) c.loop-term.invariant
