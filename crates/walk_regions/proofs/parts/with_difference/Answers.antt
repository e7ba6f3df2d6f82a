use Rattle.std.proofs.Common.{sym, ◌∙◌}
use Rattle.std.proofs.lemmas.Bool.{eqb-true}
use Rattle.std.proofs.lemmas.Result.{IfOk-weaker}
use Rattle.test_diagrams.proofs.Kept.{KeepsFunctions-trans}
use Rattle.walk_regions.proofs.PartCases.{always_ok, tells_apart, shows_left, shows_right}
use Rattle.walk_regions.proofs.parts.with_difference.Goals as goal

pub returns-then-eq-clause-given : goal.returns-then-eq-clause-given
returns-then-eq-clause-given c =
    let item = c.args.item.now in
    IfOk-weaker c.or.result _ _ (λ id is. shows_left c.args.diagrams.now c.or.new.self c.or.ensures.kept c.args.id c.constant.result id item c.constant.ensures.function (eqb-true item.right c.constant.result (sym c.eq.ensures ∙ c.if-eq.true)) is) c.or.ensures.function

pub returns-then-eq-clause-kept : goal.returns-then-eq-clause-kept
returns-then-eq-clause-kept c = always_ok c.or.result c.or.ensures.kept

pub returns-then-eq-2-clause-given : goal.returns-then-eq-2-clause-given
returns-then-eq-2-clause-given c =
    let item = c.args.item.now in
    IfOk-weaker c.or-then-eq-2.result _ _ (λ id is. shows_right c.args.diagrams.now c.or-then-eq-2.new.self c.or-then-eq-2.ensures.kept c.args.id c.constant-2.result id item c.constant-2.ensures.function (eqb-true item.left c.constant-2.result (sym c.eq-2.ensures ∙ c.if-eq-2.true)) is) c.or-then-eq-2.ensures.function

pub returns-then-eq-2-clause-kept : goal.returns-then-eq-2-clause-kept
returns-then-eq-2-clause-kept c = always_ok c.or-then-eq-2.result c.or-then-eq-2.ensures.kept

pub or-requires-2-clause-left : goal.or-requires-2-clause-left
or-requires-2-clause-left c = c.in_ok-apart.ensures.kept.ids c.args.id c.requires.id

pub returns-clause-given : goal.returns-clause-given
returns-clause-given c =
    IfOk-weaker c.or-2.result _ _
    (λ id is. tells_apart c.args.diagrams.now c.difference.new.diagrams c.or-2.new.self c.in_ok-apart.ensures.kept c.or-2.ensures.kept c.args.id c.in_ok-apart.apart id c.args.item.now c.requires.id c.in_ok-apart.ensures.function is)
    c.or-2.ensures.function

pub returns-clause-kept : goal.returns-clause-kept
returns-clause-kept c = always_ok c.or-2.result (KeepsFunctions-trans _ _ _ c.in_ok-apart.ensures.kept c.or-2.ensures.kept)
