use Rattle.std.proofs.Common.{◌≡◌, ◌+◌, ◌∷◌, List, Bool, cond, drop, nat_eq, refl, sym, ap, ◌∙◌}
use Rattle.walk_pairs.specs.declared.items.Item.{Item}
use Rattle.walk_pairs.specs.Items.{guard_of, targets_under}
use Rattle.walk_up_to.proofs.Loops.{given_next, passed_next, all_given}
use Rattle.walk_up_to.proofs.cover.sure_targets.Goals.{then-eq+in_ok-push, else-eq}
use Rattle.walk_up_to.proofs.cover.sure_targets.Goals as goal

pub loop-item-preserved : goal.loop-item-preserved
loop-item-preserved c =
    let items : List Item = c.args.items.now in
    let i = c.loop-item.item-index in
    let item : Item = c.item-item.result in
    let always = c.args.ends.now.always in
    let side = c.args.side in
    let more : List _ = targets_under always side (drop (i + 1) items) in
    let test : nat_eq (guard_of side item) always ≡ c.eq.result = ap (λ g. nat_eq g always) (sym c.guard_on.ensures) ∙ sym c.eq.ensures in
    elim c.if-eq.branch [
      | then-eq+in_ok-push w ↦
          given_next (targets_under always side) items i c.loop-item.targets.items (targets_under always side items) c.loop-item.invariant item c.loop-item-test.true c.item-item.is _ item.target
          (ap (λ (b : Bool). cond b (item.target ∷ more) more) (test ∙ w.if-eq.true))
          (ap (λ v. v.items) w.targets-is ∙ w.in_ok-push.ensures.items)
      | else-eq w ↦
          passed_next (targets_under always side) items i c.loop-item.targets.items (targets_under always side items) c.loop-item.invariant item c.loop-item-test.true c.item-item.is _
          (ap (λ (b : Bool). cond b (item.target ∷ more) more) (test ∙ w.if-eq.false))
          (ap (λ v. v.items) w.targets-is)
    ]

pub returns : goal.returns
returns c = all_given (targets_under c.args.ends.now.always c.args.side) c.args.items.now c.loop-item.item-index c.loop-item.targets.items (targets_under c.args.ends.now.always c.args.side c.args.items.now) c.loop-item.invariant refl c.loop-item-test.false
