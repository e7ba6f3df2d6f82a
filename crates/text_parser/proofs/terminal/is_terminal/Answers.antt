use Rattle.std.proofs.Common.{◌∙◌}
use Rattle.text_parser.proofs.TerminalEquality.{same_terminal}
use Rattle.text_parser.proofs.terminal.is_terminal.Goals as goal

pub returns : goal.returns
returns c = c.eq.ensures ∙ same_terminal c.args.expected c.args.terminal
