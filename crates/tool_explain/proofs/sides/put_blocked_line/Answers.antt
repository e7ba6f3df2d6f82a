use Rattle.std.proofs.Common.{◌≡◌, ◌++◌, List, ℕ, codes, sym, ap, ◌∙◌, append_assoc}
use Rattle.std.specs.Fmt.{decimal}
use Rattle.std.proofs.lemmas.Result.{on_ok_weaker}
use Rattle.kat_report.specs.Paths.{path_text}
use Rattle.tool_explain.proofs.Appending.{four_written}
use Rattle.certificate.proofs.Lines.{then_written}
use Rattle.tool_explain.proofs.sides.put_blocked_line.Goals as goal

pub returns : goal.returns
returns c =
    let out : List ℕ = c.args.out.now.items in
    let first : List ℕ = c.put.new.out.items in
    let second : List ℕ = c.put_numbered.new.out.items in
    let name : List ℕ = c.args.name.now in
    let at : List ℕ = codes " cannot continue at " in
    let number : List ℕ = decimal c.args.at in
    let named : second ≡ out ++ (name ++ at ++ number) = then_written out first second name (at ++ number) c.in_ok-put.ensures c.in_ok-put_numbered.ensures ∙ ap (λ (l : List ℕ). out ++ l) (sym (append_assoc name at number)) in
    on_ok_weaker c.put-3.result
    (four_written out second c.put-2.new.out.items c.put_path.new.out.items c.put-3.new.out.items
    (name ++ at ++ number) (codes ": it is at ") (path_text c.args.path.now) (codes "\n") named c.in_ok-put-2.ensures c.in_ok-put_path.ensures)
    c.put-3.ensures
