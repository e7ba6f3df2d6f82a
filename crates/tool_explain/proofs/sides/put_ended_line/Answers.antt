use Rattle.std.proofs.Common.{List, ℕ, ◌++◌, codes, sym, ap, ◌∙◌}
use Rattle.std.specs.Fmt.{decimal}
use Rattle.std.proofs.lemmas.Result.{on_ok_weaker}
use Rattle.certificate.proofs.Lines.{then_written}
use Rattle.tool_explain.proofs.Appending.{numbered_written}
use Rattle.tool_explain.proofs.PlaceLines.{ended_last, ended_early}
use Rattle.tool_explain.proofs.sides.put_ended_line.Goals as goal

pub returns-then-at-last : goal.returns-then-at-last
returns-then-at-last c =
    let out : List ℕ = c.args.out.now.items in
    let name : List ℕ = c.args.name.now in
    on_ok_weaker c.put-then-at-last.result
    (λ e. then_written out c.put.new.out.items c.put-then-at-last.new.out.items name (codes " has ended\n") c.in_ok-put.ensures e
    ∙ ap (λ (l : List ℕ). out ++ l) (sym (ended_last name c.args.last c.args.at c.if-at-last.true)))
    c.put-then-at-last.ensures

pub returns : goal.returns
returns c =
    let out : List ℕ = c.args.out.now.items in
    let name : List ℕ = c.args.name.now in
    on_ok_weaker c.put-2.result
    (λ e. numbered_written out c.put.new.out.items c.put_numbered.new.out.items c.put-2.new.out.items
    name (codes " has ended too early, at ") (decimal c.args.at) (codes "\n") c.in_ok-put.ensures c.in_ok-put_numbered.ensures e
    ∙ ap (λ (l : List ℕ). out ++ l) (sym (ended_early name c.args.last c.args.at c.if-at-last.false)))
    c.put-2.ensures
