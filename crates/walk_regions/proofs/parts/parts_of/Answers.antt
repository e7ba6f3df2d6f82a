use Rattle.std.proofs.Common.{List, take, refl, sym, ◌∙◌, subst}
use Rattle.std.proofs.lemmas.List.{take_all}
use Rattle.std.proofs.lemmas.List.Sorted.{IsPermutation-sym}
use Rattle.test_diagrams.proofs.Kept.{KeepsFunctions-itself, KeepsFunctions-trans}
use Rattle.walk_pairs.specs.declared.items.Item.{Item}
use Rattle.walk_regions.specs.declared.parts.Part.{Part}
use Rattle.walk_regions.specs.Parts.{AreParts, HavePartIds, HasPartAt}
use Rattle.walk_regions.proofs.PartCases.{has_permuted, first_parts, front_more}
use Rattle.partial_derivs.proofs.Items.{has_item}
use Rattle.walk_regions.proofs.parts.parts_of.Goals as goal

pub loop-item-init : goal.loop-item-init
loop-item-init c =
    let d = c.args.diagrams.now in
    let whole : Part = record { region = c.args.region; left = c.new.result; right = c.new-2.result } in
    let first = first_parts d c.args.region whole c.append.new.list.items c.new-parts.result.items c.in_ok-append.ensures c.new-parts.ensures.items refl c.new.ensures.items c.new-2.ensures.items c.requires.region c.requires.somewhere in
    record { kept = KeepsFunctions-itself d; parts = first.0; covers = λ atom fits h. first.1 atom h }

pub split_parts-requires-clause-left : goal.split_parts-requires-clause-left
split_parts-requires-clause-left c = c.loop-item.invariant.kept.ids c.item-item.result.left (c.requires.items.lefts c.item-item.result (has_item c.args.items.now c.loop-item.item-index c.item-item.result c.loop-item-test.true c.item-item.is))

pub split_parts-requires-clause-right : goal.split_parts-requires-clause-right
split_parts-requires-clause-right c = c.loop-item.invariant.kept.ids c.item-item.result.right (c.requires.items.rights c.item-item.result (has_item c.args.items.now c.loop-item.item-index c.item-item.result c.loop-item-test.true c.item-item.is))

pub split_parts-requires-clause-ids : goal.split_parts-requires-clause-ids
split_parts-requires-clause-ids c = subst (HavePartIds c.loop-item.diagrams) (sym c.deref.ensures.value) (λ p h. (c.loop-item.invariant.parts p h).0.is_id)

pub loop-item-preserved : goal.loop-item-preserved
loop-item-preserved c =
    let before = c.loop-item.invariant in
    let b = c.loop-item.diagrams in
    let d = c.split_parts.new.diagrams in
    let items : List Item = c.args.items.now in
    let k = c.loop-item.item-index in
    let step = c.in_ok-parts.ensures in
    record {
      kept = KeepsFunctions-trans c.args.diagrams.now b d before.kept step.kept;
      parts =
          front_more (λ (is : List Item). AreParts d is c.args.region c.in_ok-parts.parts.items) items k c.item-item.result c.loop-item-test.true c.item-item.is
          (step.parts (take k items) c.args.region (subst (AreParts b (take k items) c.args.region) (sym c.deref.ensures.value) before.parts));
      covers = λ atom fits h.
          step.covers atom fits
          (subst (λ (ps : List Part). HasPartAt b ps atom) (sym c.deref.ensures.value)
          (before.covers atom (fits ∙ step.kept.tests) (sym (step.kept.values c.args.region (before.kept.ids c.args.region c.requires.region) atom) ∙ h)));
    }

pub returns-clause-parts : goal.returns-clause-parts
returns-clause-parts c =
    let items : List Item = c.args.items.now in
    let all = subst (λ (is : List Item). AreParts c.loop-item.diagrams is c.args.region c.loop-item.parts.items) (take_all c.loop-item.item-index items c.loop-item-test.false) c.loop-item.invariant.parts in
    λ p h. all p (has_permuted c.order_parts.new.parts.items c.loop-item.parts.items (IsPermutation-sym _ _ c.order_parts.ensures) p h)

pub returns-clause-covers : goal.returns-clause-covers
returns-clause-covers c atom fits h =
    let found = c.loop-item.invariant.covers atom fits h in
    record { part = found.part; member = has_permuted c.loop-item.parts.items c.order_parts.new.parts.items c.order_parts.ensures found.part found.member; holds = found.holds }

pub returns-clause-kept : goal.returns-clause-kept
returns-clause-kept c = c.loop-item.invariant.kept
