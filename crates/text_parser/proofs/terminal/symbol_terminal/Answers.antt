use Rattle.std.proofs.Common.{◌∙◌, ap}
use Rattle.text_parser.specs.Terminals.{symbol_terminal}
use Rattle.text_parser.proofs.Symbols.{one_byte, two_bytes, no_byte, more_bytes}
use Rattle.text_parser.proofs.terminal.symbol_terminal.Goals as goal

pub returns-in-len1 : goal.returns-in-len1
returns-in-len1 c = c.symbol_of_one.ensures ∙ one_byte c.as_bytes.result.now c.in-len1.len_at_least c.in-len1.len_below ∙ ap symbol_terminal c.as_bytes.ensures.value

pub returns-in-len2 : goal.returns-in-len2
returns-in-len2 c = c.symbol_of_two.ensures ∙ two_bytes c.as_bytes.result.now c.in-len2.len_at_least c.in-len2.len_below ∙ ap symbol_terminal c.as_bytes.ensures.value

pub returns-in_default : goal.returns-in_default
returns-in_default c = no_byte c.as_bytes.result.now c.in_default.len_below ∙ ap symbol_terminal c.as_bytes.ensures.value

pub returns-in_default-2 : goal.returns-in_default-2
returns-in_default-2 c = more_bytes c.as_bytes.result.now c.in_default.len_at_least ∙ ap symbol_terminal c.as_bytes.ensures.value
