use Rattle.std.proofs.Common.{sym, ◌∙◌}
use Rattle.std.proofs.lemmas.Result.{IfOk-weaker}
use Rattle.test_diagrams.proofs.Kept.{KeepsFunctions-itself}
use Rattle.walk_regions.proofs.BarSources.{past_all, past_some}
use Rattle.walk_regions.proofs.bars.atoms_past.Goals as goal

pub and_not-requires-clause-first : goal.and_not-requires-clause-first
and_not-requires-clause-first c = c.requires.region

pub and_not-requires-clause-second : goal.and_not-requires-clause-second
and_not-requires-clause-second c = c.requires.from

pub returns-then-value_at-clause-past : goal.returns-then-value_at-clause-past
returns-then-value_at-clause-past c =
    IfOk-weaker c.and_not.result _ _
    (λ id is. past_some c.args.diagrams.now c.and_not.new.diagrams c.args.bar.now c.args.region c.args.after.now id (sym c.value_at.ensures.value ∙ c.if-value_at.true) is)
    c.and_not.ensures.function

pub returns-then-value_at-clause-kept : goal.returns-then-value_at-clause-kept
returns-then-value_at-clause-kept c = c.and_not.ensures.kept

pub returns-clause-past : goal.returns-clause-past
returns-clause-past c =
    let d = c.args.diagrams.now in
    past_all d d c.args.bar.now c.args.region c.args.after.now (KeepsFunctions-itself d) c.requires.region (sym c.value_at.ensures.value ∙ c.if-value_at.false)

pub returns-clause-kept : goal.returns-clause-kept
returns-clause-kept c = KeepsFunctions-itself c.args.diagrams.now
