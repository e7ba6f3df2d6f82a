use Rattle.std.proofs.Common.{sym, ◌∙◌}
use Rattle.text_parser.specs.TokenParts.{parts_of_tokens}
use Rattle.text_parser.proofs.Parentheses.{opens_is_symbol}
use Rattle.text_parser.proofs.terminal.is_round_open_at.Goals as goal

pub returns : goal.returns
returns c = c.is_symbol_at.ensures ∙ sym (opens_is_symbol (parts_of_tokens c.args.toks.now) c.args.i)
