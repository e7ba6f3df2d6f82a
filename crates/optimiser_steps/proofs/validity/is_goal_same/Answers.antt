use Rattle.std.proofs.Common.{Ok, sym, ap, ◌∙◌}
use Rattle.std.proofs.lemmas.Result.{IfOk-weaker}
use Rattle.while_lang.specs.Trees.{goal_tree}
use Rattle.abstraction.specs.Abstracts.{with_goal}
use Rattle.optimiser_steps.proofs.ValidGoals.{same_by_abstract}
use Rattle.optimiser_steps.proofs.validity.is_goal_same.Goals as goal

pub returns-in-Ok : goal.returns-in-Ok
returns-in-Ok c =
    IfOk-weaker c.is_same.result _ _
    (λ b decided. same_by_abstract (with_goal c.args.file.now (goal_tree c.args.goal.now)) _ b (c.in-Ok.ensures.exact ∙ ap Ok (sym c.shown.view_is)) decided)
    c.is_same.ensures
