use Rattle.std.proofs.Common.{◌++◌, get_or, sym, ap, ◌∙◌, subst, arith}
use Rattle.std.proofs.lemmas.Option.{get_or_from_slice_get}
use Rattle.kat_model.specs.Members.{Has}
use Rattle.term_nodes.specs.declared.TermNode.TheVariants.{Zero}
use Rattle.partial_derivs.proofs.Items.{has_item}
use Rattle.walk_pairs.specs.Numbering.{term_node_of, term_nodes_of}
use Rattle.walk_pairs.proofs.NamedTests.{mapped_next, mapped_last}
use Rattle.walk_pairs.proofs.cert.term_nodes.Goals as goal

pub loop-term-init : goal.loop-term-init
loop-term-init c = ap (λ l. l ++ term_nodes_of c.args.store.now c.args.tests.now.keys c.args.terms.now.keys c.as_slice-ids.result.now) c.new-nodes.ensures.items ∙ ap (term_nodes_of c.args.store.now c.args.tests.now.keys c.args.terms.now.keys) c.as_slice-ids.ensures.keys

pub shape-requires : goal.shape-requires
shape-requires c =
    c.requires.there c.term-item.result (subst (λ l. Has l c.term-item.result) c.as_slice-ids.ensures.keys (has_item c.as_slice-ids.result.now c.loop-term.term-index c.term-item.result c.loop-term-test.true c.term-item.is))

pub term_node-requires-clause-tests : goal.term_node-requires-clause-tests
term_node-requires-clause-tests c =
    c.requires.tests c.term-item.result c.shape.result
    (subst (λ l. Has l c.term-item.result) c.as_slice-ids.ensures.keys (has_item c.as_slice-ids.result.now c.loop-term.term-index c.term-item.result c.loop-term-test.true c.term-item.is)) c.shape.ensures.value

pub term_node-requires-clause-terms : goal.term_node-requires-clause-terms
term_node-requires-clause-terms c =
    c.requires.parts c.term-item.result c.shape.result
    (subst (λ l. Has l c.term-item.result) c.as_slice-ids.ensures.keys (has_item c.as_slice-ids.result.now c.loop-term.term-index c.term-item.result c.loop-term-test.true c.term-item.is)) c.shape.ensures.value

pub loop-term-preserved : goal.loop-term-preserved
loop-term-preserved c =
    mapped_next (λ i. term_node_of c.args.tests.now.keys c.args.terms.now.keys (get_or c.args.store.now.terms i Zero)) c.as_slice-ids.result.now c.loop-term.term-index c.term-item.result c.term_node.result c.loop-term.nodes.items c.append.new.list.items _
    c.loop-term-test.true c.term-item.is
    (c.term_node.ensures ∙ ap (term_node_of c.args.tests.now.keys c.args.terms.now.keys) (sym (get_or_from_slice_get c.args.store.now.terms c.term-item.result c.shape.result Zero c.shape.ensures.value)))
    c.in_ok-append.ensures c.loop-term.invariant

pub returns : goal.returns
returns c =
    mapped_last (λ i. term_node_of c.args.tests.now.keys c.args.terms.now.keys (get_or c.args.store.now.terms i Zero)) c.as_slice-ids.result.now c.loop-term.term-index c.loop-term.nodes.items _ (omega (arith, c.loop-term-test.false)) c.loop-term.invariant
