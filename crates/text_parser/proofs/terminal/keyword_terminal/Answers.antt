use Rattle.std.proofs.Common.{sym, ◌∙◌, arith}
use Rattle.text_parser.proofs.Words.{word_of_four_is, word_of_five_is, word_of_six_is, other_word_is}
use Rattle.text_parser.proofs.terminal.keyword_terminal.Goals as goal

pub returns-in-4 : goal.returns-in-4
returns-in-4 c = c.word_of_four.ensures ∙ sym (word_of_four_is c.args.text.now (omega arith))

pub returns-in-5 : goal.returns-in-5
returns-in-5 c = c.word_of_five.ensures ∙ sym (word_of_five_is c.args.text.now (omega arith))

pub returns-in-6 : goal.returns-in-6
returns-in-6 c = c.word_of_six.ensures ∙ sym (word_of_six_is c.args.text.now (omega arith))

pub returns-in_default : goal.returns-in_default
returns-in_default c = c.other_word.ensures ∙ sym (other_word_is c.args.text.now (omega arith) (omega arith) (omega arith))
