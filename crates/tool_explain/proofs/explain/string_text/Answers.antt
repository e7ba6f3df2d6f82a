use Rattle.std.proofs.Common.{◌++◌, List, ℕ, ap, ◌∙◌}
use Rattle.tool_explain.specs.Differences.{difference_text}
use Rattle.tool_explain.proofs.explain.string_text.Goals as goal

pub returns : goal.returns
returns c =
    let l = c.side_names-names.result.left.now in
    let r = c.side_names-names.result.right.now in
    record {
      left_name = l;
      right_name = r;
      names = c.side_names-names.ensures;
      printed = c.in_ok-put_difference.ensures ∙ ap (λ (text : List ℕ). text ++ difference_text c.args.file.now c.args.shown.now c.args.string.now c.args.left l r) c.new-out.ensures.items;
    }
