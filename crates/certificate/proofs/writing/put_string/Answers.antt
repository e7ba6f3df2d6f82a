use Rattle.std.proofs.Common.{◌∙◌, ap}
use Rattle.std.proofs.lemmas.Result.{on_ok_weaker}
use Rattle.kat_model.specs.Strings.{GuardedString}
use Rattle.certificate.proofs.Lines.{string_written}
use Rattle.certificate.proofs.writing.put_string.Goals as goal

pub returns : goal.returns
returns c =
    let first = c.as_slice.ensures ∙ ap (λ (x : GuardedString). x.first) c.string.view_is in
    let rest = c.as_slice-2.ensures ∙ ap (λ (x : GuardedString). x.rest) c.string.view_is in
    on_ok_weaker c.put_moves.result
    (string_written c.args.out.now.items c.put_line.new.out.items c.put_first.new.out.items c.put_moves.new.out.items c.as_slice.result.now c.as_slice-2.result.now c.args.string.now first rest c.in_ok-put_line.ensures c.in_ok-put_first.ensures)
    c.put_moves.ensures
