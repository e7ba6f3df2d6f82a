use Rattle.std.proofs.Common.{sym, ap, ◌∙◌}
use Rattle.std.specs.List.{list_all}
use Rattle.std.proofs.lemmas.List.Folds.{list_all-map}
use Rattle.kat_model.specs.Trees.{kat_tree}
use Rattle.tool_flow.specs.Working.Nesting.{is_shallow}
use Rattle.tool_flow.proofs.Nestings.{all_three}
use Rattle.tool_flow.proofs.printable.are_shallow.Goals as goal

pub returns-then-is_shallow-2 : goal.returns-then-is_shallow-2
returns-then-is_shallow-2 c =
    let p = c.args.problem.now in
    all_three (is_shallow p.left) (is_shallow p.right) (list_all is_shallow p.hyps) c.are_all_shallow.result
    (ap is_shallow (sym c.left.ensures.value) ∙ sym c.is_shallow.ensures ∙ c.if-is_shallow.true)
    (ap is_shallow (sym c.right.ensures.value) ∙ sym c.is_shallow-then-is_shallow.ensures ∙ c.if-is_shallow-2.true)
    (c.are_all_shallow.ensures ∙ sym (list_all-map is_shallow kat_tree c.hyps.result.now) ∙ ap (list_all is_shallow) c.hyps.ensures.value)
