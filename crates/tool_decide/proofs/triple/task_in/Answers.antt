use Rattle.std.proofs.Common.{◌≡◌, None, sym, ap, ◌∙◌}
use Rattle.std.specs.Option.{option_map}
use Rattle.outline_rules.specs.Tasks.{task_parts}
use Rattle.tool_inputs.specs.Steps.{IsRefusal}
use Rattle.tool_decide.specs.Triples.{file_task}
use Rattle.tool_decide.specs.Working.FileTriples.{LacksTask}
use Rattle.tool_inputs.proofs.ReplySpecs.{EndsWith-weaker}
use Rattle.tool_decide.specs.Working.TextTriples.{no_triple}
use Rattle.tool_decide.proofs.triple.task_in.Goals as goal

pub returns-in-Some : goal.returns-in-Some
returns-in-Some c = sym c.in_ok-task.ensures ∙ ap (option_map task_parts) c.in-Some.is

pub returns-in-None : goal.returns-in-None
returns-in-None c =
    let f = c.args.file.now in
    let none : file_task f ≡ None = sym c.in_ok-task.ensures ∙ ap (option_map task_parts) c.in-None.is in
    EndsWith-weaker (IsRefusal (λ line. line ≡ c.not_a_triple_line.result.now)) (IsRefusal (LacksTask f))
    (λ status output h. no_triple f c.args.shown.now c.requires status output none (h.0, h.1 ∙ c.not_a_triple_line.ensures)) c.refusal.result c.refusal.ensures
