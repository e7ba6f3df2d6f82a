use Rattle.std.proofs.Common.{◌∷◌, List, IfOk, sym, subst, arith}
use Rattle.while_lang.specs.Programs.{StmtTree}
use Rattle.while_lang.specs.ProgramViews.{stmt_tree}
use Rattle.optimiser_steps.specs.Working.Found.{NoStepFrom, FindsLeast}
use Rattle.optimiser_steps.proofs.Alternatives.{one_of_five}
use Rattle.optimiser_steps.proofs.ListedPrograms.{first_and_rest, nothing_left}
use Rattle.optimiser_steps.proofs.LeastSteps.{none_after_last, none_before_skip, none_before_abort, none_before_assert, none_before_act, none_before_assign, begins_with, none_before_next}
use Rattle.optimiser_steps.proofs.sequence_steps.step_after.Goals as goal

pub returns-in-empty : goal.returns-in-empty
returns-in-empty c =
    let s : StmtTree = stmt_tree c.args.stmt.now in
    subst (λ (l : List StmtTree). NoStepFrom c.args.file.now (s ∷ l) 9 11) (sym (nothing_left c.args.rest.now (omega arith))) (none_after_last c.args.file.now s)

pub returns-in-If : goal.returns-in-If
returns-in-If c =
    let split = first_and_rest c.args.rest.now c.next-item.result c.in-len1-up.len_at_least c.next-item.is in
    subst (λ (l : List StmtTree). IfOk c.if_after.result (FindsLeast c.args.file.now (stmt_tree c.args.stmt.now ∷ l) 9 11)) (sym (begins_with _ _ _ _ split c.in-If.is)) c.if_after.ensures

pub returns-in-While : goal.returns-in-While
returns-in-While c =
    let split = first_and_rest c.args.rest.now c.next-item.result c.in-len1-up.len_at_least c.next-item.is in
    subst (λ (l : List StmtTree). IfOk c.while_after.result (FindsLeast c.args.file.now (stmt_tree c.args.stmt.now ∷ l) 9 11)) (sym (begins_with _ _ _ _ split c.in-While.is)) c.while_after.ensures

pub returns-in-Skip : goal.returns-in-Skip
returns-in-Skip c =
    let f = c.args.file.now in
    let s : StmtTree = stmt_tree c.args.stmt.now in
    let split = first_and_rest c.args.rest.now c.next-item.result c.in-len1-up.len_at_least c.next-item.is in
    one_of_five c.in-Skip.is
    (λ e. none_before_next f s _ _ _ _ split e (none_before_skip f s _)) (λ e. none_before_next f s _ _ _ _ split e (none_before_abort f s _))
    (λ w. none_before_next f s _ _ _ _ split w.1 (none_before_assert f s _ _)) (λ w. none_before_next f s _ _ _ _ split w.1 (none_before_act f s _ _))
    (λ w. none_before_next f s _ _ _ _ split w.2 (none_before_assign f s _ _ _))
