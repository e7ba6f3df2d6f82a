use Rattle.std.proofs.Common.{List, take, subst}
use Rattle.std.proofs.lemmas.List.{take_all}
use Rattle.std.proofs.lemmas.Result.{IfOk-weaker}
use Rattle.test_diagrams.proofs.Kept.{KeepsFunctions-itself, KeepsFunctions-trans}
use Rattle.walk_pairs.specs.declared.items.Item.{Item}
use Rattle.walk_regions.proofs.PartCases.{always_ok, AreAlike, alike_more, alike_rest, region_part, front_more}
use Rattle.partial_derivs.proofs.Items.{has_item}
use Rattle.walk_regions.proofs.parts.differing_part.Goals as goal

pub loop-item-init : goal.loop-item-init
loop-item-init c = record {
  kept = KeepsFunctions-itself c.args.diagrams.now;
  is_id = c.constant-apart.ensures.function.in_range;
  alike = λ atom fits none i h. absurd h;
}

pub with_difference-requires-clause-left : goal.with_difference-requires-clause-left
with_difference-requires-clause-left c = c.loop-item.invariant.kept.ids c.item-item.result.left (c.requires.items.lefts c.item-item.result (has_item c.args.items.now c.loop-item.item-index c.item-item.result c.loop-item-test.true c.item-item.is))

pub with_difference-requires-clause-right : goal.with_difference-requires-clause-right
with_difference-requires-clause-right c = c.loop-item.invariant.kept.ids c.item-item.result.right (c.requires.items.rights c.item-item.result (has_item c.args.items.now c.loop-item.item-index c.item-item.result c.loop-item-test.true c.item-item.is))

pub loop-item-preserved : goal.loop-item-preserved
loop-item-preserved c =
    let before = c.loop-item.invariant in
    let a = c.args.diagrams.now in
    let b = c.loop-item.diagrams in
    let d = c.with_difference.new.diagrams in
    let items : List Item = c.args.items.now in
    let k = c.loop-item.item-index in
    let item : Item = c.item-item.result in
    let member = has_item items k item c.loop-item-test.true c.item-item.is in
    let step = c.in_ok-apart.ensures in
    record {
      kept = KeepsFunctions-trans a b d before.kept step.kept;
      is_id = step.given.is_id;
      alike = front_more (AreAlike a d c.in_ok-apart.apart) items k item c.loop-item-test.true c.item-item.is
          (alike_more a b d before.kept step.kept (take k items) item c.loop-item.apart c.in_ok-apart.apart (c.requires.items.lefts item member) (c.requires.items.rights item member) step.given before.alike);
    }

pub and-requires-clause-left : goal.and-requires-clause-left
and-requires-clause-left c = c.loop-item.invariant.kept.ids c.args.region c.requires.region

pub returns-clause-part : goal.returns-clause-part
returns-clause-part c =
    IfOk-weaker c.and.result _ _
    (λ id is. region_part c.loop-item.diagrams c.and.new.self c.and.ensures.kept c.args.region c.loop-item.apart id (c.loop-item.invariant.kept.ids c.args.region c.requires.region) is)
    c.and.ensures.function

pub returns-clause-alike : goal.returns-clause-alike
returns-clause-alike c =
    let items : List Item = c.args.items.now in
    IfOk-weaker c.and.result _ _
    (λ id is.
    alike_rest c.args.diagrams.now c.loop-item.diagrams c.and.new.self c.loop-item.invariant.kept c.and.ensures.kept items c.args.region c.loop-item.apart id (λ i h. (c.requires.items.lefts i h, c.requires.items.rights i h)) c.requires.region is
    (subst (AreAlike c.args.diagrams.now c.loop-item.diagrams c.loop-item.apart) (take_all c.loop-item.item-index items c.loop-item-test.false) c.loop-item.invariant.alike))
    c.and.ensures.function

pub returns-clause-kept : goal.returns-clause-kept
returns-clause-kept c = always_ok c.and.result (KeepsFunctions-trans _ _ _ c.loop-item.invariant.kept c.and.ensures.kept)
