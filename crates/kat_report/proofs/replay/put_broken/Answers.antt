use Rattle.std.proofs.Common.{◌++◌, List, ℕ, codes}
use Rattle.std.proofs.lemmas.Result.{on_ok_weaker}
use Rattle.std.specs.Fmt.{decimal}
use Rattle.certificate.proofs.Lines.{then_written}
use Rattle.kat_report.proofs.Appending.{two_put}
use Rattle.kat_report.proofs.replay.put_broken.Goals as goal

pub returns : goal.returns
returns c =
    let out : List ℕ = c.args.out.now.items in
    let first : List ℕ = c.put_numbered.new.out.items in
    let second : List ℕ = c.put_numbered-2.new.out.items in
    let third : List ℕ = c.put_numbered-3.new.out.items in
    let hyp : List ℕ = codes "hypothesis " ++ decimal c.args.hyp in
    let from : List ℕ = hyp ++ codes " relates " ++ decimal c.args.from in
    let to : List ℕ = from ++ codes " to " ++ decimal c.args.to in
    let two = two_put out first second hyp (codes " relates ") (decimal c.args.from) c.in_ok-put_numbered.ensures c.in_ok-put_numbered-2.ensures in
    let three = two_put out second third from (codes " to ") (decimal c.args.to) two c.in_ok-put_numbered-3.ensures in
    on_ok_weaker c.put_word.result (then_written out third c.put_word.new.out.items to (codes "\n") three) c.put_word.ensures
