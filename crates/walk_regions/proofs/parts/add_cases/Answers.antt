use Rattle.std.proofs.Common.{◌≡◌, ⊎_elim, inl, inr, sym, ◌∙◌}
use Rattle.std.specs.Bool.{IsTrue}
use Rattle.std.proofs.lemmas.Bool.{eqb-true}
use Rattle.std.proofs.lemmas.Result.{on_ok_weaker}
use Rattle.test_diagrams.specs.Functions.{value_of}
use Rattle.test_diagrams.proofs.Kept.{KeepsFunctions-trans}
use Rattle.walk_regions.proofs.PartCases.{both_ok, part_kept, both_values, never_true}
use Rattle.walk_regions.proofs.parts.add_cases.Goals as goal

pub returns-then-eq-clause-covers : goal.returns-then-eq-clause-covers
returns-then-eq-clause-covers c atom fits h =
    let b = c.add_case.new.diagrams in
    let right = c.args.item.now.right in
    let never = never_true b c.constant.result right atom c.constant.ensures.function (eqb-true right c.constant.result (sym c.eq.ensures ∙ c.if-eq.true)) fits in
    c.in_ok-add_case.ensures.covers atom fits (⊎_elim inl (λ k. inr (record { there = k.0; on_left = k.1; on_right = sym (c.in_ok-add_case.ensures.kept.values right c.requires.right atom) ∙ never })) h)

pub add_case-requires-2-clause-region : goal.add_case-requires-2-clause-region
add_case-requires-2-clause-region c = c.in_ok-add_case.ensures.kept.ids c.args.part.now.region c.requires.region

pub add_case-requires-2-clause-left : goal.add_case-requires-2-clause-left
add_case-requires-2-clause-left c = c.in_ok-add_case.ensures.kept.ids c.args.item.now.left c.requires.left

pub add_case-requires-2-clause-right : goal.add_case-requires-2-clause-right
add_case-requires-2-clause-right c = c.in_ok-add_case.ensures.kept.ids c.args.item.now.right c.requires.right

pub returns-clause-parts : goal.returns-clause-parts
returns-clause-parts c =
    on_ok_weaker c.add_case-2.result
    (λ second items whole part parts.
    second items whole (part_kept c.args.diagrams.now c.add_case.new.diagrams c.in_ok-add_case.ensures.kept items whole c.args.part.now part) (c.in_ok-add_case.ensures.parts items whole part parts))
    c.add_case-2.ensures.parts

pub returns-clause-covers : goal.returns-clause-covers
returns-clause-covers c =
    let a = c.args.diagrams.now in
    let b = c.add_case.new.diagrams in
    let kept = c.in_ok-add_case.ensures.kept in
    let part = c.args.part.now in
    let item = c.args.item.now in
    on_ok_weaker c.add_case-2.result
    (λ both atom fits.
    both_values {P₁ = IsTrue (value_of b part.region atom) × (value_of b item.left atom ≡ c.args.left)} (value_of a item.right atom) (value_of b item.right atom) (kept.values item.right c.requires.right atom)
    (λ p. (kept.values part.region c.requires.region atom ∙ p.0, kept.values item.left c.requires.left atom ∙ p.1))
    (λ h. c.in_ok-add_case.ensures.covers atom (fits ∙ both.1.tests) (⊎_elim inl (λ k. inr (record { there = k.0.0; on_left = k.0.1; on_right = k.1 })) h))
    (λ h. both.0 atom fits (⊎_elim inl (λ k. inr (record { there = k.0.0; on_left = k.0.1; on_right = k.1 })) h)))
    (both_ok _ _ c.add_case-2.result c.add_case-2.ensures.covers c.add_case-2.ensures.kept)

pub returns-clause-kept : goal.returns-clause-kept
returns-clause-kept c = on_ok_weaker c.add_case-2.result (λ kept. KeepsFunctions-trans _ _ _ c.in_ok-add_case.ensures.kept kept) c.add_case-2.ensures.kept

pub add_case-requires-clause-region : goal.add_case-requires-clause-region
add_case-requires-clause-region c = c.requires.region

pub add_case-requires-clause-left : goal.add_case-requires-clause-left
add_case-requires-clause-left c = c.requires.left

pub add_case-requires-clause-right : goal.add_case-requires-clause-right
add_case-requires-clause-right c = c.requires.right

pub add_case-requires-clause-ids : goal.add_case-requires-clause-ids
add_case-requires-clause-ids c = c.requires.ids

pub add_case-requires-2-clause-ids : goal.add_case-requires-2-clause-ids
add_case-requires-2-clause-ids c = c.in_ok-add_case.ensures.ids

pub returns-then-eq-clause-parts : goal.returns-then-eq-clause-parts
returns-then-eq-clause-parts c = c.in_ok-add_case.ensures.parts

pub returns-then-eq-clause-ids : goal.returns-then-eq-clause-ids
returns-then-eq-clause-ids c = c.in_ok-add_case.ensures.ids

pub returns-then-eq-clause-kept : goal.returns-then-eq-clause-kept
returns-then-eq-clause-kept c = c.in_ok-add_case.ensures.kept

pub returns-clause-ids : goal.returns-clause-ids
returns-clause-ids c = c.add_case-2.ensures.ids
