use Rattle.std.proofs.Common.{◌<◌, ◌^◌, length, ap, ◌∙◌, subst}
use Rattle.tool_decide.specs.Working.OutlineReplies.{narrow_notes}
use Rattle.tool_decide.proofs.outline.know_numbers.Goals as goal

pub returns : goal.returns
returns c =
    let few : length c.args.notes.now.nodes < 2 ^ 64 = subst (λ n. n < 2 ^ 64) (c.count.ensures ∙ ap (λ l. length l) c.nodes.ensures.value) c.count.type_inv in
    narrow_notes c.args.problem.now c.tests.ensures.within c.args.notes.now c.requires c.nodes.ensures.rules few
