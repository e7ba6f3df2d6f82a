use Rattle.std.proofs.Common.{List, ℕ, ◌++◌, codes, sym, ap, ◌∙◌}
use Rattle.std.proofs.lemmas.Result.{on_ok_weaker}
use Rattle.kat_report.specs.Paths.{path_text}
use Rattle.tool_explain.proofs.Appending.{four_written}
use Rattle.tool_explain.proofs.PlaceLines.{action_last, action_early}
use Rattle.tool_explain.proofs.sides.put_at_action_line.Goals as goal

pub returns-then-at-last : goal.returns-then-at-last
returns-then-at-last c = rw (action_early c.args.name.now c.args.last c.args.at c.args.path.now c.if-at-last.true) c.put_blocked_line.ensures

pub returns : goal.returns
returns c =
    let out : List ℕ = c.args.out.now.items in
    let name : List ℕ = c.args.name.now in
    let path : List ℕ = c.args.path.now in
    on_ok_weaker c.put-3.result
    (λ e. four_written out c.put.new.out.items c.put-2.new.out.items c.put_path.new.out.items c.put-3.new.out.items
    name (codes " has more to do: it is at ") (path_text path) (codes "\n") c.in_ok-put.ensures c.in_ok-put-2.ensures c.in_ok-put_path.ensures e
    ∙ ap (λ (l : List ℕ). out ++ l) (sym (action_last name c.args.last c.args.at path c.if-at-last.false)))
    c.put-3.ensures
