use Rattle.std.proofs.Common.{Some, refl, rules}
use Rattle.kat_model.specs.declared.limits.TheConstants.{MAX_TEXT_BYTES}
use Rattle.kat_report.specs.InputLines.{too_long_line}
use Rattle.tool_inputs.specs.Steps.{IsRefusal, shelf_use}
use Rattle.tool_inputs.specs.FileReplies.{OfFile, IsTooLong}
use Rattle.tool_inputs.specs.ReplySpecs.{RepliesWith}
use Rattle.tool_inputs.proofs.FileReplies.{first_unread, first_refused, second_unread, both_read, unposed, posed, second_long}
use Rattle.tool_inputs.proofs.pair_command.reply_to_files.Goals as goal

pub bytes_reply-requires : goal.bytes_reply-requires
bytes_reply-requires g c = (c.deref.result.now, c.in_ok-question.ensures)

pub returns-in_err-text-clause-replied : goal.returns-in_err-text-clause-replied
returns-in_err-text-clause-replied g c =
    let s = shelf_use (g.S.Shelf.content c.args.shelf.now) (g.S.Shelf.faults c.args.shelf.now) (g.S.Shelf.faults c.file_text.new.shelf) (g.S.Shelf.last_failed c.file_text.new.shelf) in
    let command = c.args.command.now in
    let replies = g.C.PairCommand.replies command in
    let accepts = g.C.Question.TextQuestion.accepts in
    let r : RepliesWith (OfFile s c.args.file.now (IsTooLong (Some MAX_TEXT_BYTES) too_long_line)) c.from_residual.result = search rules in
    first_unread s c.args.file.now c.args.other.now accepts replies
    (λ text past.
    unposed (g.C.Question.TextQuestion.declines text) (g.C.Question.TextQuestion.poses text) (λ bytes q. g.C.PairCommand.steps command q bytes) (replies text) (g.met.C.PairCommand.is_reply command text)
    (accepts text) (g.met.C.Question.TextQuestion.is_declined text) 2 too_long_line (refl, g.met.C.Question.TextQuestion.declines_long text past))
    c.from_residual.result
    r

pub returns-in_err-question-clause-replied : goal.returns-in_err-question-clause-replied
returns-in_err-question-clause-replied g c =
    let s = shelf_use (g.S.Shelf.content c.args.shelf.now) (g.S.Shelf.faults c.args.shelf.now) (g.S.Shelf.faults c.file_text.new.shelf) (g.S.Shelf.last_failed c.file_text.new.shelf) in
    let command = c.args.command.now in
    let replies = g.C.PairCommand.replies command in
    let accepts = g.C.Question.TextQuestion.accepts in
    let text = c.deref.result.now in
    let declines = g.C.Question.TextQuestion.declines text in
    let r : RepliesWith (IsRefusal declines) c.from_residual-in_err-question.result = search rules in
    first_refused s c.args.file.now c.args.other.now accepts replies text c.in_ok-text.text.items c.deref.ensures.value c.in_ok-text.ensures.got c.from_residual-in_err-question.result
    (IsRefusal declines)
    (unposed declines (g.C.Question.TextQuestion.poses text) (λ bytes q. g.C.PairCommand.steps command q bytes) (replies text) (g.met.C.PairCommand.is_reply command text)
    (accepts text) (g.met.C.Question.TextQuestion.is_declined text))
    r

pub returns-in_err-bytes-clause-replied : goal.returns-in_err-bytes-clause-replied
returns-in_err-bytes-clause-replied g c =
    let s = shelf_use (g.S.Shelf.content c.args.shelf.now) (g.S.Shelf.faults c.args.shelf.now) (g.S.Shelf.faults c.file_bytes.new.shelf) (g.S.Shelf.last_failed c.file_bytes.new.shelf) in
    let command = c.args.command.now in
    let replies = g.C.PairCommand.replies command in
    let accepts = g.C.Question.TextQuestion.accepts in
    let text = c.deref.result.now in
    let q = c.in_ok-question.question in
    let r : RepliesWith (OfFile (shelf_use (g.S.Shelf.content c.file_text.new.shelf) (g.S.Shelf.faults c.file_text.new.shelf) (g.S.Shelf.faults c.file_bytes.new.shelf) (g.S.Shelf.last_failed c.file_bytes.new.shelf)) c.args.other.now (IsTooLong c.limit.result c.long_line.result.now)) c.from_residual-in_err-bytes.result = search rules in
    second_unread s c.args.file.now c.args.other.now accepts replies text c.in_ok-text.text.items c.deref.ensures.value c.in_ok-text.ensures.got c.from_residual-in_err-bytes.result
    (g.met.C.Question.TextQuestion.is_accepted text q c.in_ok-question.ensures) (g.S.Shelf.content c.file_text.new.shelf) (g.S.Shelf.faults c.file_text.new.shelf) (c.file_text.ensures.kept c.args.other.now) c.in_ok-text.ensures.counts
    c.limit.result c.long_line.result.now
    (second_long (g.C.Question.TextQuestion.declines text) (g.C.Question.TextQuestion.poses text) (λ bytes p. g.C.PairCommand.steps command p bytes) (replies text) (g.met.C.PairCommand.is_reply command text) q c.in_ok-question.ensures
    (g.C.PairCommand.limit command) c.limit.result c.limit.ensures (g.C.PairCommand.long_line command) c.long_line.result.now c.long_line.ensures (g.met.C.PairCommand.refuses_long command q)) r

pub returns-clause-replied : goal.returns-clause-replied
returns-clause-replied g c =
    let s = shelf_use (g.S.Shelf.content c.args.shelf.now) (g.S.Shelf.faults c.args.shelf.now) (g.S.Shelf.faults c.file_bytes.new.shelf) (g.S.Shelf.last_failed c.file_bytes.new.shelf) in
    let command = c.args.command.now in
    let replies = g.C.PairCommand.replies command in
    let accepts = g.C.Question.TextQuestion.accepts in
    let text = c.deref.result.now in
    let q = c.in_ok-question.question in
    both_read s c.args.file.now c.args.other.now accepts replies text c.in_ok-text.text.items c.deref.ensures.value c.in_ok-text.ensures.got c.bytes_reply.result
    (g.met.C.Question.TextQuestion.is_accepted text q c.in_ok-question.ensures) (g.S.Shelf.content c.file_text.new.shelf) (g.S.Shelf.faults c.file_text.new.shelf) (c.file_text.ensures.kept c.args.other.now) c.in_ok-text.ensures.counts
    c.deref-2.result.now c.in_ok-bytes.bytes.items c.deref-2.ensures.value c.in_ok-bytes.ensures.got
    (g.C.PairCommand.steps command q c.deref-2.result.now)
    (posed (g.C.Question.TextQuestion.declines text) (g.C.Question.TextQuestion.poses text) (λ bytes p. g.C.PairCommand.steps command p bytes) (replies text) (g.met.C.PairCommand.is_reply command text) q c.in_ok-question.ensures c.deref-2.result.now) c.bytes_reply.ensures
