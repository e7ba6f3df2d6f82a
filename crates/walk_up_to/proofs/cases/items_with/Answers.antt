use Rattle.std.proofs.Common.{◌<◌, ◌+◌, take, refl, sym, ap, ◌∙◌, subst, false}
use Rattle.std.proofs.lemmas.Bool.{not-false, eqb-true}
use Rattle.std.proofs.lemmas.List.{take_all}
use Rattle.test_diagrams.proofs.Kept.{KeepsFunctions-itself, KeepsFunctions-trans, IsDiagramOf-kept}
use Rattle.partial_derivs.proofs.Items.{has_item}
use Rattle.walk_pairs.specs.declared.items.Item.{Item}
use Rattle.walk_up_to.specs.Cases.{AreItemsWith}
use Rattle.walk_up_to.proofs.FixedItems.{with_kept, fixed_later, fixed_before, with_item, with_unreached}
use Rattle.walk_up_to.proofs.cases.items_with.Goals.{then-ne+in_ok-append, else-ne+else-ne-2}
use Rattle.walk_up_to.proofs.cases.items_with.Goals as goal

pub fix-requires-clause-id : goal.fix-requires-clause-id
fix-requires-clause-id c = c.loop-item.invariant.kept.ids c.item-item.result.left (c.requires.items.lefts c.item-item.result (has_item c.args.items.now c.loop-item.item-index c.item-item.result c.loop-item-test.true c.item-item.is))

pub right_fixed-requires-clause-right : goal.right_fixed-requires-clause-right
right_fixed-requires-clause-right c =
    c.fix.ensures.kept.ids c.item-item.result.right
    (c.loop-item.invariant.kept.ids c.item-item.result.right (c.requires.items.rights c.item-item.result (has_item c.args.items.now c.loop-item.item-index c.item-item.result c.loop-item-test.true c.item-item.is)))

pub right_fixed-requires-clause-left : goal.right_fixed-requires-clause-left
right_fixed-requires-clause-left c =
    let id = c.loop-item.invariant.kept.ids c.item-item.result.left (c.requires.items.lefts c.item-item.result (has_item c.args.items.now c.loop-item.item-index c.item-item.result c.loop-item-test.true c.item-item.is)) in
    record {
      in_range = c.in_ok-left.ensures.function.in_range;
      value = λ atom fits. c.in_ok-left.ensures.function.value atom fits ∙ sym (c.fix.ensures.kept.values c.item-item.result.left id _);
    }

pub returns-in_err-left-clause-kept : goal.returns-in_err-left-clause-kept
returns-in_err-left-clause-kept c = KeepsFunctions-trans _ _ _ c.loop-item.invariant.kept c.fix.ensures.kept

pub returns-in_err-right-clause-kept : goal.returns-in_err-right-clause-kept
returns-in_err-right-clause-kept c = KeepsFunctions-trans _ _ _ c.loop-item.invariant.kept (KeepsFunctions-trans _ _ _ c.fix.ensures.kept c.right_fixed.ensures.kept)

pub returns-in_err-append-clause-kept : goal.returns-in_err-append-clause-kept
returns-in_err-append-clause-kept c = KeepsFunctions-trans _ _ _ c.loop-item.invariant.kept (KeepsFunctions-trans _ _ _ c.fix.ensures.kept c.right_fixed.ensures.kept)

pub loop-item-preserved : goal.loop-item-preserved
loop-item-preserved c =
    let d = c.args.diagrams.now in
    let now = c.loop-item.diagrams in
    let mid = c.fix.new.self in
    let end = c.right_fixed.new.diagrams in
    let items = c.args.items.now in
    let i = c.loop-item.item-index in
    let item : Item = c.item-item.result in
    let test = c.args.test in
    let value = c.args.value in
    let list = c.loop-item.list.items in
    let first = c.fix.ensures.kept in
    let second = c.right_fixed.ensures.kept in
    let before = KeepsFunctions-trans d now mid c.loop-item.invariant.kept first in
    let kept = KeepsFunctions-trans d mid end before second in
    let member = has_item items i item c.loop-item-test.true c.item-item.is in
    let left = fixed_later d mid end second test value item.left c.in_ok-left.left
    (fixed_before d now mid first test value c.loop-item.invariant.kept item.left c.in_ok-left.left (c.requires.items.lefts item member) c.in_ok-left.ensures.function) in
    let right = fixed_before d mid end second test value before item.right c.in_ok-right.right (c.requires.items.rights item member) c.in_ok-right.ensures.function in
    let gathered = with_kept d now end (KeepsFunctions-trans now mid end first second) test value (take i items) list c.loop-item.invariant.gathered in
    elim c.if-ne.branch [
      | then-ne+in_ok-append w ↦
          let reached : Item = record { target = item.target; left = c.in_ok-left.left; right = c.in_ok-right.right } in
          record {
            kept = kept;
            gathered = subst (λ l. AreItemsWith d end (take (i + 1) items) test value l) (sym (ap (λ v. v.items) w.list-is ∙ w.in_ok-append.ensures))
                (with_item d end kept.tests test value items c.requires.items.ascending i item c.loop-item-test.true c.item-item.is list gathered reached refl left right);
          }
      | else-ne+else-ne-2 w ↦
          let never = c.args.ends.now.never in
          let nowhere = IsDiagramOf-kept d end kept never (λ atom. false) c.requires.ends.never in
          record {
            kept = kept;
            gathered = subst (λ l. AreItemsWith d end (take (i + 1) items) test value l) (sym (ap (λ v. v.items) w.list-is))
                (with_unreached d end kept.tests test value items c.requires.items.ascending i item c.loop-item-test.true c.item-item.is list gathered c.in_ok-left.left c.in_ok-right.right never left right nowhere
                (eqb-true c.in_ok-left.left never (not-false _ (sym c.ne.ensures ∙ w.if-ne.false))) (eqb-true c.in_ok-right.right never (not-false _ (sym w.ne-else-ne.ensures ∙ w.if-ne-2.false))));
          }
    ]

pub returns-in_err-list-clause-kept : goal.returns-in_err-list-clause-kept
returns-in_err-list-clause-kept c = KeepsFunctions-itself c.args.diagrams.now

pub fix-requires-clause-in_range : goal.fix-requires-clause-in_range
fix-requires-clause-in_range c = subst (λ n. c.args.test < n) (sym c.loop-item.invariant.kept.tests) c.requires.in_range

pub returns-clause-items : goal.returns-clause-items
returns-clause-items c = subst (λ l. AreItemsWith c.args.diagrams.now c.loop-item.diagrams l c.args.test c.args.value c.loop-item.list.items) (take_all c.loop-item.item-index c.args.items.now c.loop-item-test.false) c.loop-item.invariant.gathered

pub returns-clause-kept : goal.returns-clause-kept
returns-clause-kept c = c.loop-item.invariant.kept
