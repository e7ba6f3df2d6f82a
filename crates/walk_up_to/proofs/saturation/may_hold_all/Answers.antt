use Rattle.std.proofs.Common.{◌≡◌, false, sym, ◌∙◌, arith}
use Rattle.partial_derivs.proofs.Items.{has_item}
use Rattle.walk_up_to.proofs.saturation.may_hold_all.Goals as goal

pub returns-then-not-has_member : goal.returns-then-not-has_member
returns-then-not-has_member c =
    let off : c.has.result ≡ false = grind arith in
    let out : c.has_member.result ≡ false = grind arith in
    λ e. (
      c.target-item.result,
      has_item c.args.targets.now c.loop-target.target-index c.target-item.result c.loop-target-test.true c.target-item.is,
      sym c.has.ensures ∙ off,
      sym c.has_member.ensures.value ∙ out,
    )
