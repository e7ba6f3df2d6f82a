use Rattle.std.proofs.lemmas.Bool.{false≢true}
use Rattle.std.proofs.lemmas.Result.{IfOk-weaker}
use Rattle.optimiser_steps.proofs.ValidGoals.{refuted}
use Rattle.optimiser_steps.proofs.loop_steps.is_kept.Goals as goal

pub returns-then-not-branch : goal.returns-then-not-branch
returns-then-not-branch c = ((λ h. absurd (false≢true h)), (λ both. absurd (refuted _ _ c.in_ok-keeps.ensures c.if-not-branch.true both.0)))

pub returns : goal.returns
returns c =
    IfOk-weaker c.keeps_opposite.result _ _
    (λ b d. ((λ h. (c.in_ok-keeps.ensures.0 c.if-not-branch.false, d.0 h)), (λ both. d.1 both.1)))
    c.keeps_opposite.ensures
