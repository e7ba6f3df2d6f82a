use Rattle.std.proofs.Common.{sym, subst, IfOk, ◌∙◌}
use Rattle.std.proofs.lemmas.Bool.{eqb-true}
use Rattle.std.proofs.lemmas.Result.{IfOk-weaker}
use Rattle.walk_regions.specs.Parts.{IsRegionWhere}
use Rattle.walk_regions.proofs.PartCases.{always_ok, region_true, region_false, region_never}
use Rattle.walk_regions.proofs.parts.region_where.Goals as goal

pub returns-then-value-clause-given : goal.returns-then-value-clause-given
returns-then-value-clause-given c =
    subst (λ v. IfOk c.and.result (IsRegionWhere c.args.diagrams.now c.and.new.self c.args.region c.args.guard v)) (sym c.if-value.true)
    (IfOk-weaker c.and.result _ _ (λ id is. region_true c.args.diagrams.now c.and.new.self c.args.region c.args.guard id is) c.and.ensures.function)

pub returns-then-eq-clause-given : goal.returns-then-eq-clause-given
returns-then-eq-clause-given c =
    let d = c.args.diagrams.now in
    subst (λ v. IsRegionWhere d d c.args.region c.args.guard v c.args.region) (sym c.if-value.false)
    (region_never d c.args.region c.constant.result c.args.guard c.requires.region c.constant.ensures.function (eqb-true c.args.guard c.constant.result (sym c.eq.ensures ∙ c.if-eq.true)))

pub returns-clause-given : goal.returns-clause-given
returns-clause-given c =
    subst (λ v. IfOk c.and_not.result (IsRegionWhere c.args.diagrams.now c.and_not.new.diagrams c.args.region c.args.guard v)) (sym c.if-value.false)
    (IfOk-weaker c.and_not.result _ _ (λ id is. region_false c.args.diagrams.now c.and_not.new.diagrams c.args.region c.args.guard id is) c.and_not.ensures.function)

pub returns-then-value-clause-kept : goal.returns-then-value-clause-kept
returns-then-value-clause-kept c = always_ok c.and.result c.and.ensures.kept

pub returns-clause-kept : goal.returns-clause-kept
returns-clause-kept c = always_ok c.and_not.result c.and_not.ensures.kept
