use Rattle.std.proofs.Common.{rules}
use Rattle.tool_inputs.proofs.FileReplies.{unread_replied}
use Rattle.tool_inputs.proofs.text_command.reply_to_text_file.Goals as goal

pub returns-in_err-text-clause-replied : goal.returns-in_err-text-clause-replied
returns-in_err-text-clause-replied g c = unread_replied _ _ (g.C.TextCommand.replies c.args.command.now) (g.met.C.TextCommand.refuses_long c.args.command.now) _ (search rules)
