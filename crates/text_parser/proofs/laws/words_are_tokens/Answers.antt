use Rattle.text_parser.proofs.PrintedWords.{keyword_is_name, decimal_is_number}
use Rattle.text_parser.proofs.laws.words_are_tokens.Goals as goal

pub returns-clause-keywords : goal.returns-clause-keywords
returns-clause-keywords c = keyword_is_name

pub returns-clause-decimals : goal.returns-clause-decimals
returns-clause-decimals c = decimal_is_number
