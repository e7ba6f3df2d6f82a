use Rattle.text_parser.proofs.Words.{keyword_by_terminal}
use Rattle.text_parser.proofs.keyword.is_keyword.Goals as goal

pub returns : goal.returns
returns c = cc (keyword_by_terminal c.args.text.now)
