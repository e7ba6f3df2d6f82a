use Rattle.std.proofs.Common.{◌+◌, ◌∷◌, List, Bool, cond, drop, refl, sym, ap, ◌∙◌}
use Rattle.walk_pairs.specs.declared.items.Item.{Item}
use Rattle.walk_pairs.specs.Items.{open_targets}
use Rattle.walk_up_to.proofs.Loops.{given_next, passed_next, all_given}
use Rattle.walk_up_to.proofs.cover.open_targets.Goals.{then-is_open+in_ok-push, else-is_open}
use Rattle.walk_up_to.proofs.cover.open_targets.Goals as goal

pub loop-item-preserved : goal.loop-item-preserved
loop-item-preserved c =
    let items : List Item = c.args.items.now in
    let i = c.loop-item.item-index in
    let item : Item = c.item-item.result in
    let never = c.args.ends.now.never in
    let always = c.args.ends.now.always in
    let side = c.args.side in
    let more : List _ = open_targets never always side (drop (i + 1) items) in
    elim c.if-is_open.branch [
      | then-is_open+in_ok-push w ↦
          given_next (open_targets never always side) items i c.loop-item.targets.items (open_targets never always side items) c.loop-item.invariant item c.loop-item-test.true c.item-item.is _ item.target
          (ap (λ (b : Bool). cond b (item.target ∷ more) more) (sym c.is_open.ensures ∙ w.if-is_open.true))
          (ap (λ v. v.items) w.targets-is ∙ w.in_ok-push.ensures.items)
      | else-is_open w ↦
          passed_next (open_targets never always side) items i c.loop-item.targets.items (open_targets never always side items) c.loop-item.invariant item c.loop-item-test.true c.item-item.is _
          (ap (λ (b : Bool). cond b (item.target ∷ more) more) (sym c.is_open.ensures ∙ w.if-is_open.false))
          (ap (λ v. v.items) w.targets-is)
    ]

pub returns : goal.returns
returns c = all_given (open_targets c.args.ends.now.never c.args.ends.now.always c.args.side) c.args.items.now c.loop-item.item-index c.loop-item.targets.items (open_targets c.args.ends.now.never c.args.ends.now.always c.args.side c.args.items.now) c.loop-item.invariant refl c.loop-item-test.false
