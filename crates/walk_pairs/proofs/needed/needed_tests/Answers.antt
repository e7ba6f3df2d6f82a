use Rattle.std.proofs.Common.{ℕ, sym, subst}
use Rattle.std.proofs.lemmas.Result.{IfOk-weaker}
use Rattle.term_nodes.specs.declared.TestNode.{TestNode}
use Rattle.term_nodes.specs.Nodes.{test_parts}
use Rattle.walk_pairs.specs.Needed.{AreParts}
use Rattle.walk_pairs.proofs.SameParts.{all_there, names_all}
use Rattle.walk_pairs.proofs.needed.needed_tests.Goals as goal

pub with_test_parts-requires : goal.with_test_parts-requires
with_test_parts-requires c =
    let all = names_all c.args.store.now c.args.terms.now.keys c.args.pairs.now c.in_ok-named.named.keys c.add_pair_tests.new.set.keys c.in_ok-named.ensures c.in_ok-add_pair_tests.ensures in
    all_there c.args.store.now c.count.ensures.store c.args.terms.now.keys c.args.pairs.now c.add_pair_tests.new.set.keys all c.requires.tests

pub returns : goal.returns
returns c =
    let all = names_all c.args.store.now c.args.terms.now.keys c.args.pairs.now c.in_ok-named.named.keys c.add_pair_tests.new.set.keys c.in_ok-named.ensures c.in_ok-add_pair_tests.ensures in
    IfOk-weaker c.tests_in_order.result _ _
    (λ s e. (c.add_pair_tests.new.set.keys, all, subst (AreParts (TestNode ℕ) c.args.store.now.tests test_parts c.add_pair_tests.new.set.keys) (sym e) c.in_ok-all.ensures)) c.tests_in_order.ensures
