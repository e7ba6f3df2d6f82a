use Rattle.std.proofs.Common.{rules}
use Rattle.tool_inputs.proofs.FileReplies.{unread_replied}
use Rattle.tool_inputs.proofs.Steps.{text_long}
use Rattle.kat_report.specs.InputLines.{too_long_line}
use Rattle.tool_inputs.proofs.file_command.reply_to_file.Goals as goal

pub returns-in_err-text-clause-replied : goal.returns-in_err-text-clause-replied
returns-in_err-text-clause-replied g c =
    let command = c.args.command.now in
    unread_replied _ _ (g.C.FileCommand.replies command)
    (λ text past. g.met.C.FileCommand.is_reply command text 2 too_long_line (text_long text (g.C.FileCommand.steps command) past)) _ (search rules)
