use Rattle.std.proofs.Common.{List, [], subst}
use Rattle.std.proofs.lemmas.List.{take_all}
use Rattle.certificate.specs.PairParts.{PairParts}
use Rattle.walk_pairs.specs.Needed.{tests_of_pairs, AddsAll}
use Rattle.walk_pairs.proofs.KeySets.{adds_first}
use Rattle.walk_pairs.proofs.SameParts.{pair_tests_next}
use Rattle.walk_pairs.proofs.needed.add_pair_tests.Goals as goal

pub loop-pair-init : goal.loop-pair-init
loop-pair-init c = adds_first c.args.set.now.keys []

pub loop-pair-preserved : goal.loop-pair-preserved
loop-pair-preserved c =
    pair_tests_next c.args.set.now.keys c.loop-pair.set.keys c.add_pair_test.new.set.keys c.args.pairs.now c.loop-pair.pair-index c.pair-item.result c.loop-pair-test.true c.pair-item.is c.in_ok-add_pair_test.ensures c.loop-pair.invariant

pub returns : goal.returns
returns c =
    let ps = c.args.pairs.now in
    subst (λ (l : List PairParts). AddsAll c.args.set.now.keys c.loop-pair.set.keys (tests_of_pairs l)) (take_all c.loop-pair.pair-index ps c.loop-pair-test.false) c.loop-pair.invariant
