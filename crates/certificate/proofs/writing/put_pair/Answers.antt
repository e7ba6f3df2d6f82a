use Rattle.std.proofs.Common.{◌∙◌, ap}
use Rattle.std.proofs.lemmas.Result.{on_ok_weaker}
use Rattle.certificate.specs.PairParts.{PairParts}
use Rattle.certificate.proofs.Lines.{pair_written}
use Rattle.certificate.proofs.writing.put_pair.Goals as goal

pub returns : goal.returns
returns c =
    let left = c.as_slice.ensures ∙ ap (λ (p : PairParts). p.left) c.pair.view_is in
    let right = c.as_slice-2.ensures ∙ ap (λ (p : PairParts). p.right) c.pair.view_is in
    let last = ap (λ (p : PairParts). p.test) c.pair.view_is in
    on_ok_weaker c.put_last.result
    (pair_written c.args.out.now.items c.push.new.self.items c.put_numbers.new.out.items c.extend_from_slice.new.self.items c.put_numbers-2.new.out.items c.put_last.new.out.items c.as_slice.result.now c.as_slice-2.result.now _ c.args.pair.now left right last
    c.in_ok-push.ensures.items c.in_ok-put_numbers.ensures c.in_ok-extend_from_slice.ensures.items c.in_ok-put_numbers-2.ensures)
    c.put_last.ensures
