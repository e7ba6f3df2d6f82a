use Rattle.std.proofs.Common.{map, refl}
use Rattle.kat_model.specs.Expressions.{cond_tree}
use Rattle.while_lang.specs.Programs.{stmts_of}
use Rattle.while_lang.specs.ProgramViews.{stmt_tree}
use Rattle.optimiser_steps.proofs.MadeSteps.{shared_made}
use Rattle.optimiser_steps.proofs.SharedEnds.{shared_list}
use Rattle.optimiser_steps.proofs.statement_steps.shared_end_step.Goals as goal

pub returns-in_ok-list-in-Some : goal.returns-in_ok-list-in-Some
returns-in_ok-list-in-Some c f =
    let shared = c.in-Some.field-0 in
    shared_made f (map stmt_tree c.args.rest.now) _ (cond_tree c.args.cond.now) c.args.first.now c.args.second.now (stmts_of shared.first) (stmts_of shared.second) (stmt_tree shared.last)
    (rw c.in-Some.is at c.in_ok-shared_end.ensures) refl
    (shared_list (cond_tree c.args.cond.now) shared.first shared.second (stmt_tree c.in_ok-stmt-in-Some.stmt) (stmt_tree shared.last) (map stmt_tree c.in_ok-list-in-Some.list.items) (map stmt_tree c.args.rest.now)
    c.in_ok-stmt-in-Some.ensures c.in_ok-list-in-Some.ensures)
