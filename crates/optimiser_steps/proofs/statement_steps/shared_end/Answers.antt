use Rattle.std.proofs.Common.{sym, ◌∙◌}
use Rattle.optimiser_steps.proofs.ValidGoals.{refuted}
use Rattle.optimiser_steps.proofs.SharedEnds.{end_unlike, end_alike}
use Rattle.optimiser_steps.proofs.statement_steps.shared_end.Goals as goal

pub returns-then-not-branch : goal.returns-then-not-branch
returns-then-not-branch c ps qs r alike =
    end_unlike c.first.inside.list.items c.second.inside.list.items c.in-Some.front.now c.in-Some-split_last.other_front.now c.in-Some.last.now c.in-Some-split_last.other.now c.args.first.now c.args.second.now
    c.first.view_is c.second.view_is (sym c.deref.ensures.value ∙ c.in-Some.ensures.cases.0) (sym c.deref-2.ensures.value ∙ c.in-Some-split_last.ensures.cases.0)
    (refuted _ _ c.in_ok-is_same_stmt.ensures c.if-not-branch.true) ps qs r alike

pub returns : goal.returns
returns c =
    end_alike c.first.inside.list.items c.second.inside.list.items c.in-Some.front.now c.in-Some-split_last.other_front.now c.in-Some.last.now c.in-Some-split_last.other.now c.args.first.now c.args.second.now
    c.first.view_is c.second.view_is (sym c.deref.ensures.value ∙ c.in-Some.ensures.cases.0) (sym c.deref-2.ensures.value ∙ c.in-Some-split_last.ensures.cases.0)
    (c.in_ok-is_same_stmt.ensures.0 c.if-not-branch.false) _ _ _ c.in_ok-copied_end.ensures.first c.in_ok-copied_end.ensures.second c.in_ok-copied_end.ensures.last
