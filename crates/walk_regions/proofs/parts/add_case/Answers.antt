use Rattle.std.proofs.Common.{◌≡◌, ◌≢◌, ⊎_elim, inl, inr, sym, ◌∙◌}
use Rattle.std.proofs.lemmas.Bool.{eqb-true, eqb-false}
use Rattle.walk_regions.proofs.PartCases.{parts_kept, part_ids_kept, part_at_kept, parts_pushed, part_ids_pushed, part_at_pushed, none_there, region_somewhere}
use Rattle.walk_regions.proofs.parts.add_case.Goals as goal

pub returns-then-eq-clause-parts : goal.returns-then-eq-clause-parts
returns-then-eq-clause-parts c items whole part parts = parts_kept c.args.diagrams.now c.part_where.new.diagrams c.in_ok-case.ensures.kept _ whole c.args.parts.now.items parts

pub returns-then-eq-clause-ids : goal.returns-then-eq-clause-ids
returns-then-eq-clause-ids c = part_ids_kept c.args.diagrams.now c.part_where.new.diagrams c.in_ok-case.ensures.kept c.args.parts.now.items c.requires.ids

pub returns-then-eq-clause-covers : goal.returns-then-eq-clause-covers
returns-then-eq-clause-covers c atom fits h =
    let same : c.in_ok-case.case.region ≡ c.constant.result = eqb-true c.in_ok-case.case.region c.constant.result (sym c.eq.ensures ∙ c.if-eq.true) in
    ⊎_elim
    (part_at_kept c.args.diagrams.now c.part_where.new.diagrams c.in_ok-case.ensures.kept c.args.parts.now.items atom c.requires.ids)
    (λ k. absurd (none_there c.part_where.new.diagrams c.constant.result c.in_ok-case.case.region atom c.constant.ensures.function same fits (c.in_ok-case.ensures.there atom fits k)))
    h

pub returns-clause-parts : goal.returns-clause-parts
returns-clause-parts c items whole part parts =
    let differ : c.in_ok-case.case.region ≢ c.constant.result = eqb-false c.in_ok-case.case.region c.constant.result (sym c.eq.ensures ∙ c.if-eq.false) in
    parts_pushed c.part_where.new.diagrams _ whole c.args.parts.now.items c.append.new.list.items c.in_ok-case.case c.in_ok-append.ensures (parts_kept c.args.diagrams.now c.part_where.new.diagrams c.in_ok-case.ensures.kept _ whole c.args.parts.now.items parts) (c.in_ok-case.ensures.part items whole part)
    (region_somewhere c.part_where.new.diagrams c.constant.ensures.reduced c.constant.result c.in_ok-case.case.region c.constant.ensures.function c.in_ok-case.ensures.id differ)

pub returns-clause-ids : goal.returns-clause-ids
returns-clause-ids c =
    part_ids_pushed c.part_where.new.diagrams c.args.parts.now.items c.append.new.list.items c.in_ok-case.case c.in_ok-append.ensures (part_ids_kept c.args.diagrams.now c.part_where.new.diagrams c.in_ok-case.ensures.kept c.args.parts.now.items c.requires.ids) c.in_ok-case.ensures.id

pub returns-clause-covers : goal.returns-clause-covers
returns-clause-covers c atom fits h =
    part_at_pushed c.part_where.new.diagrams c.args.parts.now.items c.append.new.list.items c.in_ok-case.case atom c.in_ok-append.ensures
    (⊎_elim
    (λ old. inl (part_at_kept c.args.diagrams.now c.part_where.new.diagrams c.in_ok-case.ensures.kept c.args.parts.now.items atom c.requires.ids old))
    (λ k. inr (c.in_ok-case.ensures.there atom fits k))
    h)

pub part_where-requires-clause-region : goal.part_where-requires-clause-region
part_where-requires-clause-region c = c.requires.region

pub part_where-requires-clause-left : goal.part_where-requires-clause-left
part_where-requires-clause-left c = c.requires.left

pub part_where-requires-clause-right : goal.part_where-requires-clause-right
part_where-requires-clause-right c = c.requires.right

pub returns-then-eq-clause-kept : goal.returns-then-eq-clause-kept
returns-then-eq-clause-kept c = c.in_ok-case.ensures.kept

pub returns-clause-kept : goal.returns-clause-kept
returns-clause-kept c = c.in_ok-case.ensures.kept
