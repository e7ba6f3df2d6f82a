use Rattle.text_parser.proofs.Seen.{seen}
use Rattle.text_parser.proofs.terminal.terminal_at.Goals as goal

pub returns-in-Some : goal.returns-in-Some
returns-in-Some c = let h = c.in-Some.ensures.lookup in seen c.args.toks.now c.args.i c.in-Some.token.now c.terminal_of.result c.terminal_of.ensures h.1 h.3.0
