use Rattle.std.proofs.Common.{◌≡◌, Option, IfOk, ap, subst}
use Rattle.std.specs.Option.{option_map}
use Rattle.while_lang.specs.Files.{FileParts}
use Rattle.outline_rules.specs.Tasks.{TaskParts, task_parts}
use Rattle.tool_decide.specs.Working.TextTriples.{shown_task}
use Rattle.tool_decide.proofs.triple.file_task.Goals as goal

pub returns : goal.returns
returns c =
    subst (λ (x : Option TaskParts). IfOk c.goal_task.result (λ task. option_map task_parts task ≡ x))
    (shown_task c.args.file.now c.args.shown.now _ c.requires (ap (λ (f : FileParts). f.goal) c.file.view_is))
    c.goal_task.ensures
