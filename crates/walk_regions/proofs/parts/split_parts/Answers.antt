use Rattle.std.proofs.Common.{⊎_elim, inl, inr, List, take, sym, ◌∙◌, subst}
use Rattle.std.proofs.lemmas.List.{take_all}
use Rattle.kat_model.specs.Members.{Has}
use Rattle.partial_derivs.proofs.Items.{has_item, take_item}
use Rattle.test_diagrams.proofs.Kept.{KeepsFunctions-itself, KeepsFunctions-trans}
use Rattle.walk_regions.specs.declared.parts.Part.{Part}
use Rattle.walk_regions.specs.Parts.{HasPartAt}
use Rattle.walk_regions.proofs.PartCases.{part_kept, part_at_last}
use Rattle.walk_regions.proofs.parts.split_parts.Goals as goal

pub loop-part-init : goal.loop-part-init
loop-part-init c = record {
  kept = KeepsFunctions-itself c.args.diagrams.now;
  ids = λ p h. absurd (subst (λ (l : List Part). Has l p) c.new-list.ensures.items h);
  parts = λ items whole all p h. absurd (subst (λ (l : List Part). Has l p) c.new-list.ensures.items h);
  covers = λ atom fits h. absurd h.member;
}

pub split_part-requires-clause-region : goal.split_part-requires-clause-region
split_part-requires-clause-region c = c.loop-part.invariant.kept.ids c.part-item.result.region (c.requires.ids c.part-item.result (has_item c.args.parts.now c.loop-part.part-index c.part-item.result c.loop-part-test.true c.part-item.is))

pub split_part-requires-clause-left : goal.split_part-requires-clause-left
split_part-requires-clause-left c = c.loop-part.invariant.kept.ids c.args.item.now.left c.requires.left

pub split_part-requires-clause-right : goal.split_part-requires-clause-right
split_part-requires-clause-right c = c.loop-part.invariant.kept.ids c.args.item.now.right c.requires.right

pub loop-part-preserved : goal.loop-part-preserved
loop-part-preserved c =
    let before = c.loop-part.invariant in
    let a = c.args.diagrams.now in
    let b = c.loop-part.diagrams in
    let parts : List Part = c.args.parts.now in
    let k = c.loop-part.part-index in
    let part : Part = c.part-item.result in
    let member = has_item parts k part c.loop-part-test.true c.part-item.is in
    let step = c.in_ok-split_part.ensures in
    record {
      kept = KeepsFunctions-trans a b c.split_part.new.diagrams before.kept step.kept;
      ids = step.ids;
      parts = λ items whole all. step.parts items whole (part_kept a b before.kept items whole part (all part member).0) (before.parts items whole all);
      covers = λ atom fits h.
          step.covers atom fits
          (⊎_elim
          (λ old. inl (before.covers atom (fits ∙ step.kept.tests) old))
          (λ own. inr (before.kept.values part.region (c.requires.ids part member) atom ∙ own))
          (part_at_last a (take k parts) part atom (subst (λ (l : List Part). HasPartAt a l atom) (take_item parts k part c.loop-part-test.true c.part-item.is) h)));
    }

pub returns-clause-covers : goal.returns-clause-covers
returns-clause-covers c atom fits h =
    let parts : List Part = c.args.parts.now in
    c.loop-part.invariant.covers atom fits (subst (λ (l : List Part). HasPartAt c.args.diagrams.now l atom) (sym (take_all c.loop-part.part-index parts c.loop-part-test.false)) h)
