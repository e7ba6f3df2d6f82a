use Rattle.std.proofs.Common.{◌++◌, get_or, sym, ap, ◌∙◌, subst, arith}
use Rattle.std.proofs.lemmas.Option.{get_or_from_slice_get}
use Rattle.kat_model.specs.Members.{Has}
use Rattle.term_nodes.specs.declared.TestNode.TheVariants as test
use Rattle.partial_derivs.proofs.Items.{has_item}
use Rattle.walk_pairs.specs.Numbering.{test_node_of, test_nodes_of}
use Rattle.walk_pairs.proofs.NamedTests.{mapped_next, mapped_last}
use Rattle.walk_pairs.proofs.cert.test_nodes.Goals as goal

pub loop-test-init : goal.loop-test-init
loop-test-init c = ap (λ l. l ++ test_nodes_of c.args.store.now c.args.tests.now.keys c.as_slice-ids.result.now) c.new-nodes.ensures.items ∙ ap (test_nodes_of c.args.store.now c.args.tests.now.keys) c.as_slice-ids.ensures.keys

pub test_shape-requires : goal.test_shape-requires
test_shape-requires c =
    c.requires.there c.test-item.result (subst (λ l. Has l c.test-item.result) c.as_slice-ids.ensures.keys (has_item c.as_slice-ids.result.now c.loop-test.test-index c.test-item.result c.loop-test-test.true c.test-item.is))

pub test_node-requires : goal.test_node-requires
test_node-requires c =
    c.requires.parts c.test-item.result c.test_shape.result
    (subst (λ l. Has l c.test-item.result) c.as_slice-ids.ensures.keys (has_item c.as_slice-ids.result.now c.loop-test.test-index c.test-item.result c.loop-test-test.true c.test-item.is)) c.test_shape.ensures.value

pub loop-test-preserved : goal.loop-test-preserved
loop-test-preserved c =
    mapped_next (λ i. test_node_of c.args.tests.now.keys (get_or c.args.store.now.tests i test.False)) c.as_slice-ids.result.now c.loop-test.test-index c.test-item.result c.test_node.result c.loop-test.nodes.items c.append.new.list.items _
    c.loop-test-test.true c.test-item.is
    (c.test_node.ensures ∙ ap (test_node_of c.args.tests.now.keys) (sym (get_or_from_slice_get c.args.store.now.tests c.test-item.result c.test_shape.result test.False c.test_shape.ensures.value)))
    c.in_ok-append.ensures c.loop-test.invariant

pub returns : goal.returns
returns c =
    mapped_last (λ i. test_node_of c.args.tests.now.keys (get_or c.args.store.now.tests i test.False)) c.as_slice-ids.result.now c.loop-test.test-index c.loop-test.nodes.items _ (omega (arith, c.loop-test-test.false)) c.loop-test.invariant
