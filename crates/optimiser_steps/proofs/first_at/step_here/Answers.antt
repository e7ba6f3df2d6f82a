use Rattle.std.proofs.Common.{List, sym, subst, arith}
use Rattle.while_lang.specs.Programs.{StmtTree}
use Rattle.optimiser_steps.specs.Working.Found.{NoStepFrom}
use Rattle.optimiser_steps.proofs.ListedPrograms.{nothing_left}
use Rattle.optimiser_steps.proofs.MadeSteps.{none_of_none}
use Rattle.optimiser_steps.proofs.first_at.step_here.Goals as goal

pub returns-in-empty : goal.returns-in-empty
returns-in-empty c =
    subst (λ (l : List StmtTree). NoStepFrom c.args.file.now l 1 13) (sym (nothing_left c.args.list.now (omega arith))) (none_of_none c.args.file.now)
