use Rattle.std.proofs.Common.{◌≡◌, Err, inr, subst}
use Rattle.kat_io.specs.Gets.{GetsFrom}
use Rattle.tool_inputs.specs.Steps.{IsRefusal, shelf_use}
use Rattle.tool_inputs.specs.FileReplies.{OfFile, IsTooLong}
use Rattle.tool_inputs.proofs.Contents.{got_long, got_within}
use Rattle.tool_inputs.proofs.ReplySpecs.{EndsWith-weaker}
use Rattle.tool_inputs.proofs.getting.file_bytes.Goals as goal

pub returns-in-Err-TooLong-clause-got : goal.returns-in-Err-TooLong-clause-got
returns-in-Err-TooLong-clause-got g c =
    let s = shelf_use (g.S.Shelf.content c.args.shelf.now) (g.S.Shelf.faults c.args.shelf.now) (g.S.Shelf.faults c.get.new.self) (g.S.Shelf.last_failed c.get.new.self) in
    let long = got_long (g.S.Shelf.content c.args.shelf.now c.args.file.now) c.args.limit
    (subst (λ e. GetsFrom (g.S.Shelf.content c.args.shelf.now c.args.file.now) (Err e) c.args.limit) c.in-Err-TooLong.field-0-is c.in-Err-TooLong.ensures.whole) in
    EndsWith-weaker (IsRefusal (λ l. l ≡ c.args.too_long.now)) (OfFile s c.args.file.now (IsTooLong c.args.limit c.args.too_long.now))
    (λ status output h. inr (long.0, long.1, (long.2, h.0, h.1)))
    c.refusal.result
    c.refusal.ensures

pub returns-in-Ok-clause-within : goal.returns-in-Ok-clause-within
returns-in-Ok-clause-within g c = got_within (g.S.Shelf.content c.args.shelf.now c.args.file.now) c.in-Ok.bytes c.args.limit c.in-Ok.ensures.whole
