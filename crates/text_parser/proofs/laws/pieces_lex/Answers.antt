use Rattle.text_parser.proofs.Printed.{printed}
use Rattle.text_parser.proofs.laws.pieces_lex.Goals as goal

pub returns : goal.returns
returns c = printed
