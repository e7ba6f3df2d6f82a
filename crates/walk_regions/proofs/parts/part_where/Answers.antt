use Rattle.std.proofs.Common.{◌≡◌, refl, sym, ◌∙◌, subst}
use Rattle.std.specs.Bool.{IsTrue}
use Rattle.std.proofs.lemmas.Bool.{eqb-true}
use Rattle.std.proofs.lemmas.Result.{IfOk-weaker}
use Rattle.test_diagrams.specs.Functions.{value_of, IsDiagramId}
use Rattle.test_diagrams.proofs.Kept.{KeepsFunctions-trans}
use Rattle.walk_regions.proofs.PartCases.{always_ok, case_there, part_more, part_empty, none_there}
use Rattle.walk_regions.proofs.parts.part_where.Goals as goal

pub region_where-requires-2-clause-guard : goal.region_where-requires-2-clause-guard
region_where-requires-2-clause-guard c = c.in_ok-beside.ensures.kept.ids c.args.item.now.right c.requires.right

pub returns-then-eq-clause-part : goal.returns-then-eq-clause-part
returns-then-eq-clause-part c items whole part =
    let d = c.region_where-2.new.diagrams in
    let same : c.in_ok-region.region ≡ c.constant.result = eqb-true c.in_ok-region.region c.constant.result (sym c.eq.ensures ∙ c.if-eq.true) in
    part_empty c.args.diagrams.now c.region_where.new.diagrams d c.in_ok-beside.ensures.kept c.in_ok-region.ensures.kept c.args.part.now c.args.item.now c.args.left c.args.right c.in_ok-beside.beside c.in_ok-region.region c.requires.region c.requires.left c.requires.right c.in_ok-beside.ensures.given c.in_ok-region.ensures.given
    items whole part (record { region = c.in_ok-region.region; left = c.new-no_left.result; right = c.new-no_right.result }) refl (λ atom fits h. none_there d c.constant.result c.in_ok-region.region atom c.constant.ensures.function same fits h)

pub returns-then-eq-clause-there : goal.returns-then-eq-clause-there
returns-then-eq-clause-there c atom fits h =
    case_there c.args.diagrams.now c.region_where.new.diagrams c.region_where-2.new.diagrams c.in_ok-beside.ensures.kept c.in_ok-region.ensures.kept c.args.part.now c.args.item.now c.args.left c.args.right c.in_ok-beside.beside c.in_ok-region.region c.requires.region c.requires.left c.requires.right c.in_ok-beside.ensures.given c.in_ok-region.ensures.given
    atom fits h

pub returns-then-eq-clause-kept : goal.returns-then-eq-clause-kept
returns-then-eq-clause-kept c = KeepsFunctions-trans _ _ _ c.in_ok-beside.ensures.kept c.in_ok-region.ensures.kept

pub returns-clause-part : goal.returns-clause-part
returns-clause-part c =
    IfOk-weaker c.part_at.result _ _
    (λ p is items whole part.
    part_more c.args.diagrams.now c.region_where.new.diagrams c.region_where-2.new.diagrams c.in_ok-beside.ensures.kept c.in_ok-region.ensures.kept c.args.part.now c.args.item.now c.args.left c.args.right c.in_ok-beside.beside c.in_ok-region.region c.requires.region c.requires.left c.requires.right c.in_ok-beside.ensures.given c.in_ok-region.ensures.given
    items whole part p is.0 is.1 is.2)
    c.part_at.ensures

pub returns-clause-there : goal.returns-clause-there
returns-clause-there c =
    IfOk-weaker c.part_at.result _ _
    (λ p is atom fits h.
    subst (λ r. IsTrue (value_of c.region_where-2.new.diagrams r atom)) (sym is.0)
    (case_there c.args.diagrams.now c.region_where.new.diagrams c.region_where-2.new.diagrams c.in_ok-beside.ensures.kept c.in_ok-region.ensures.kept c.args.part.now c.args.item.now c.args.left c.args.right c.in_ok-beside.beside c.in_ok-region.region c.requires.region c.requires.left c.requires.right c.in_ok-beside.ensures.given c.in_ok-region.ensures.given
    atom fits h))
    c.part_at.ensures

pub returns-clause-id : goal.returns-clause-id
returns-clause-id c = IfOk-weaker c.part_at.result _ _ (λ p is. subst (IsDiagramId c.region_where-2.new.diagrams) (sym is.0) c.in_ok-region.ensures.given.is_id) c.part_at.ensures

pub returns-clause-kept : goal.returns-clause-kept
returns-clause-kept c = always_ok c.part_at.result (KeepsFunctions-trans _ _ _ c.in_ok-beside.ensures.kept c.in_ok-region.ensures.kept)

pub returns-then-eq-clause-id : goal.returns-then-eq-clause-id
returns-then-eq-clause-id c = c.in_ok-region.ensures.given.is_id

pub region_where-requires-2-clause-region : goal.region_where-requires-2-clause-region
region_where-requires-2-clause-region c = c.in_ok-beside.ensures.given.is_id
