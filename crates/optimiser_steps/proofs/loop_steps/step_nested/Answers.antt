use Rattle.std.proofs.Common.{map}
use Rattle.while_lang.specs.ProgramViews.{stmt_tree}
use Rattle.optimiser_steps.proofs.Alternatives.{one_of_six}
use Rattle.optimiser_steps.proofs.LeastSteps.{no_loop_at, none_without_loop}
use Rattle.optimiser_steps.proofs.loop_steps.step_nested.Goals as goal

pub returns-in-Skip : goal.returns-in-Skip
returns-in-Skip c =
    none_without_loop c.args.file.now (map stmt_tree c.args.rest.now) (stmt_tree c.args.stmt.now)
    (one_of_six c.in-Skip.is (λ e. no_loop_at _ _ e tt) (λ e. no_loop_at _ _ e tt) (λ w. no_loop_at _ _ w.1 tt) (λ w. no_loop_at _ _ w.1 tt) (λ w. no_loop_at _ _ w.2 tt) (λ w. no_loop_at _ _ w.3 tt))
