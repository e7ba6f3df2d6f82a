use Rattle.std.proofs.Common.{◌∷◌, map, sym, subst}
use Rattle.std.proofs.lemmas.Result.{IfOk-weaker}
use Rattle.while_lang.specs.ProgramViews.{stmt_tree}
use Rattle.while_lang.specs.declared.prog.Stmt.{Stmt}
use Rattle.optimiser_steps.specs.Working.Found.{FindsLeast}
use Rattle.optimiser_steps.proofs.statement_steps.step_alone.Goals as goal

pub returns-in-Abort : goal.returns-in-Abort
returns-in-Abort c =
    IfOk-weaker c.abort_step.result _ _
    (λ r found. subst (λ (s : Stmt). FindsLeast c.args.file.now (stmt_tree s ∷ map stmt_tree c.args.rest.now) 1 9 r) (sym c.in-Abort.is) (found c.args.file.now))
    c.abort_step.ensures
