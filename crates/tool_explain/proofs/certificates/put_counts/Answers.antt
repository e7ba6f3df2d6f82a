use Rattle.std.proofs.Common.{◌++◌, List, ℕ}
use Rattle.std.proofs.lemmas.Result.{on_ok_weaker}
use Rattle.std.specs.Prelude.{codes}
use Rattle.std.specs.Fmt.{decimal}
use Rattle.certificate.proofs.Lines.{then_written}
use Rattle.tool_explain.proofs.certificates.put_counts.Goals as goal

pub returns : goal.returns
returns c =
    let out : List ℕ = c.args.out.now.items in
    let first : List ℕ = c.put_numbered.new.out.items in
    on_ok_weaker c.put_numbered-2.result
    (then_written out first c.put_numbered-2.new.out.items (codes "hypotheses " ++ decimal c.args.hyps) (codes ", stated " ++ decimal c.args.stated) c.in_ok-put_numbered.ensures)
    c.put_numbered-2.ensures
