use Rattle.std.proofs.Common.{◌++◌, List, ℕ, codes}
use Rattle.std.proofs.lemmas.Result.{on_ok_weaker}
use Rattle.std.specs.Fmt.{decimal}
use Rattle.kat_report.proofs.Appending.{two_put}
use Rattle.kat_report.proofs.reason.put_broken.Goals as goal

pub returns : goal.returns
returns c =
    let out : List ℕ = c.args.out.now.items in
    let first : List ℕ = c.put_numbered.new.out.items in
    let second : List ℕ = c.put_numbered-2.new.out.items in
    let hyp : List ℕ = codes "HypBroken hyp " ++ decimal c.args.hyp in
    let from : List ℕ = hyp ++ codes " from " ++ decimal c.args.from in
    let two = two_put out first second hyp (codes " from ") (decimal c.args.from) c.in_ok-put_numbered.ensures c.in_ok-put_numbered-2.ensures in
    on_ok_weaker c.put_numbered-3.result (two_put out second c.put_numbered-3.new.out.items from (codes " to ") (decimal c.args.to) two) c.put_numbered-3.ensures
