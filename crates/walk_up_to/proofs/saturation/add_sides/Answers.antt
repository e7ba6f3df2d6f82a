use Rattle.std.proofs.Common.{◌≡◌, List, Some, slice_get, sym, ◌∙◌, subst, arith}
use Rattle.std.proofs.lemmas.Option.{same_Some}
use Rattle.walk_up_to.specs.declared.pair.PairSide.{PairSide}
use Rattle.walk_up_to.specs.Marks.{IsClosedAt, IsMore}
use Rattle.walk_up_to.proofs.Closures.{made_itself, made_then, more_itself, more_then, all_next, all_members, at_read, grew_last}
use Rattle.walk_up_to.proofs.saturation.add_sides.Goals as goal

pub loop-pair_side-init : goal.loop-pair_side-init
loop-pair_side-init c = record {
  made = made_itself c.args.listed.now.pairs c.args.marked.now.marks;
  closed = λ f j h. absurd (omega (arith, h));
  more = more_itself c.args.marked.now;
}

pub loop-pair_side-preserved : goal.loop-pair_side-preserved
loop-pair_side-preserved c =
    let now = c.loop-pair_side.invariant in
    let given = c.in_ok-is_new.ensures in
    let pair_sides : List PairSide = c.args.pair_sides.now in
    let i = c.loop-pair_side.pair_side-index in
    let pair_side : PairSide = c.pair_side-item.result in
    let read : slice_get pair_sides i ≡ Some pair_side = at_read pair_sides i pair_side c.loop-pair_side-test.true c.pair_side-item.is in
    record {
      made = made_then c.args.listed.now.pairs c.args.marked.now.marks c.loop-pair_side.marked.marks c.add_at.new.marked.marks now.made given.made;
      closed = all_next (λ n j. (s : PairSide) → slice_get pair_sides j ≡ Some s → IsClosedAt c.args.listed.now.pairs n.marks s) c.loop-pair_side.marked c.add_at.new.marked i c.loop-pair_side.grew c.in_ok-is_new.is_new c.either-grew.result c.either-grew.ensures given.more now.closed
          (λ _ f s at. subst (IsClosedAt c.args.listed.now.pairs c.add_at.new.marked.marks) (same_Some pair_side s (sym read ∙ at)) (given.closed f));
      more = subst (IsMore c.args.marked.now c.add_at.new.marked) (sym c.either-grew.ensures) (more_then c.args.marked.now c.loop-pair_side.marked c.add_at.new.marked c.loop-pair_side.grew c.in_ok-is_new.is_new now.more given.more);
    }

pub returns-clause-closed : goal.returns-clause-closed
returns-clause-closed c = λ f. all_members (IsClosedAt c.args.listed.now.pairs c.loop-pair_side.marked.marks) c.args.pair_sides.now c.loop-pair_side.pair_side-index c.loop-pair_side-test.false (c.loop-pair_side.invariant.closed f)

pub returns-then-is_reached-clause-made : goal.returns-then-is_reached-clause-made
returns-then-is_reached-clause-made c =
    made_then c.args.listed.now.pairs c.args.marked.now.marks c.loop-pair_side.marked.marks c.add_at.new.marked.marks c.loop-pair_side.invariant.made c.in_ok-is_new.ensures.made

pub returns-then-is_reached-clause-closed : goal.returns-then-is_reached-clause-closed
returns-then-is_reached-clause-closed c = λ f. absurd (grew_last c.loop-pair_side.grew c.in_ok-is_new.is_new c.either-grew.result c.either-grew.ensures c.if-is_new.true f)

pub returns-then-is_reached-clause-more : goal.returns-then-is_reached-clause-more
returns-then-is_reached-clause-more c =
    subst (IsMore c.args.marked.now c.add_at.new.marked) (sym c.either-grew.ensures) (more_then c.args.marked.now c.loop-pair_side.marked c.add_at.new.marked c.loop-pair_side.grew c.in_ok-is_new.is_new c.loop-pair_side.invariant.more c.in_ok-is_new.ensures.more)
