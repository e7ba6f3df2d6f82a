use Rattle.std.proofs.Common.{◌≡◌, length, true, replicate, rules, sym, ap, ◌∙◌}
use Rattle.std.proofs.lemmas.List.{length-map}
use Rattle.kat_model.specs.Trees.{kat_tree}
use Rattle.tool_explain.proofs.MarkedLists.{with_all}
use Rattle.tool_explain.proofs.used.all_marks.Goals as goal

pub returns : goal.returns
returns c =
    let all : c.in_ok-marks.marks.items ≡ replicate (length c.hyps.result.now) true = c.in_ok-marks.ensures.items_if_clones_equal (λ y e. search rules) in
    with_all c.args.problem.now c.in_ok-marks.marks.items
    (all ∙ ap (λ n. replicate n true) (sym (length-map c.hyps.result.now kat_tree) ∙ ap length c.hyps.ensures.value))
