use Rattle.std.proofs.Common.{⊎_elim, inl, inr, sym, ◌∙◌}
use Rattle.std.proofs.lemmas.Bool.{eqb-true}
use Rattle.std.proofs.lemmas.Result.{on_ok_weaker}
use Rattle.test_diagrams.specs.Functions.{value_of}
use Rattle.test_diagrams.proofs.Kept.{KeepsFunctions-trans}
use Rattle.walk_regions.proofs.PartCases.{both_ok, part_kept, both_values, never_true}
use Rattle.walk_regions.proofs.parts.split_part.Goals as goal

pub returns-then-eq-clause-covers : goal.returns-then-eq-clause-covers
returns-then-eq-clause-covers c atom fits h =
    let b = c.add_cases.new.diagrams in
    let left = c.args.item.now.left in
    let never = never_true b c.constant.result left atom c.constant.ensures.function (eqb-true left c.constant.result (sym c.eq.ensures ∙ c.if-eq.true)) fits in
    c.in_ok-add_cases.ensures.covers atom fits (⊎_elim inl (λ k. inr (k, sym (c.in_ok-add_cases.ensures.kept.values left c.requires.left atom) ∙ never)) h)

pub add_cases-requires-2-clause-region : goal.add_cases-requires-2-clause-region
add_cases-requires-2-clause-region c = c.in_ok-add_cases.ensures.kept.ids c.args.part.now.region c.requires.region

pub add_cases-requires-2-clause-left : goal.add_cases-requires-2-clause-left
add_cases-requires-2-clause-left c = c.in_ok-add_cases.ensures.kept.ids c.args.item.now.left c.requires.left

pub add_cases-requires-2-clause-right : goal.add_cases-requires-2-clause-right
add_cases-requires-2-clause-right c = c.in_ok-add_cases.ensures.kept.ids c.args.item.now.right c.requires.right

pub returns-clause-parts : goal.returns-clause-parts
returns-clause-parts c =
    on_ok_weaker c.add_cases-2.result
    (λ second items whole part parts.
    second items whole (part_kept c.args.diagrams.now c.add_cases.new.diagrams c.in_ok-add_cases.ensures.kept items whole c.args.part.now part) (c.in_ok-add_cases.ensures.parts items whole part parts))
    c.add_cases-2.ensures.parts

pub returns-clause-covers : goal.returns-clause-covers
returns-clause-covers c =
    let a = c.args.diagrams.now in
    let b = c.add_cases.new.diagrams in
    let kept = c.in_ok-add_cases.ensures.kept in
    let part = c.args.part.now in
    let item = c.args.item.now in
    on_ok_weaker c.add_cases-2.result
    (λ both atom fits.
    both_values (value_of a item.left atom) (value_of b item.left atom) (kept.values item.left c.requires.left atom)
    (λ p. kept.values part.region c.requires.region atom ∙ p)
    (λ h. c.in_ok-add_cases.ensures.covers atom (fits ∙ both.1.tests) h)
    (λ h. both.0 atom fits h))
    (both_ok _ _ c.add_cases-2.result c.add_cases-2.ensures.covers c.add_cases-2.ensures.kept)

pub returns-clause-kept : goal.returns-clause-kept
returns-clause-kept c = on_ok_weaker c.add_cases-2.result (λ kept. KeepsFunctions-trans _ _ _ c.in_ok-add_cases.ensures.kept kept) c.add_cases-2.ensures.kept

pub add_cases-requires-clause-region : goal.add_cases-requires-clause-region
add_cases-requires-clause-region c = c.requires.region

pub add_cases-requires-clause-left : goal.add_cases-requires-clause-left
add_cases-requires-clause-left c = c.requires.left

pub add_cases-requires-clause-right : goal.add_cases-requires-clause-right
add_cases-requires-clause-right c = c.requires.right

pub add_cases-requires-clause-ids : goal.add_cases-requires-clause-ids
add_cases-requires-clause-ids c = c.requires.ids

pub add_cases-requires-2-clause-ids : goal.add_cases-requires-2-clause-ids
add_cases-requires-2-clause-ids c = c.in_ok-add_cases.ensures.ids

pub returns-then-eq-clause-parts : goal.returns-then-eq-clause-parts
returns-then-eq-clause-parts c = c.in_ok-add_cases.ensures.parts

pub returns-then-eq-clause-ids : goal.returns-then-eq-clause-ids
returns-then-eq-clause-ids c = c.in_ok-add_cases.ensures.ids

pub returns-then-eq-clause-kept : goal.returns-then-eq-clause-kept
returns-then-eq-clause-kept c = c.in_ok-add_cases.ensures.kept

pub returns-clause-ids : goal.returns-clause-ids
returns-clause-ids c = c.add_cases-2.ensures.ids
