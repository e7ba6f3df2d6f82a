use Rattle.std.proofs.Common.{◌≡◌, ap, ◌∙◌, subst}
use Rattle.certificate.specs.PairParts.{PairParts}
use Rattle.walk_pairs.specs.Needed.{members_of, AddsAll}
use Rattle.walk_pairs.proofs.PartSets.{members_next}
use Rattle.walk_pairs.proofs.needed.members.Goals as goal

pub loop-pair-preserved : goal.loop-pair-preserved
loop-pair-preserved c =
    let own : PairParts = c.pair-item.result in
    let left : c.as_slice.result.now ≡ own.left = c.as_slice.ensures ∙ ap (λ (p : PairParts). p.left) c.pair.view_is in
    let right : c.as_slice-in-loop-pair.result.now ≡ own.right = c.as_slice-in-loop-pair.ensures ∙ ap (λ (p : PairParts). p.right) c.pair.view_is in
    members_next (members_of c.args.pairs.now) c.args.pairs.now c.loop-pair.pair-index own c.loop-pair.set.keys c.add_all.new.set.keys c.add_all-in-loop-pair.new.set.keys c.loop-pair-test.true c.pair-item.is
    (subst (AddsAll c.loop-pair.set.keys c.add_all.new.set.keys) left c.in_ok-add_all.ensures.added)
    (subst (AddsAll c.add_all.new.set.keys c.add_all-in-loop-pair.new.set.keys) right c.in_ok-add_all-2.ensures.added)
    c.loop-pair.invariant
