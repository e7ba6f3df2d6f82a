use Rattle.text_parser.proofs.Unique.{one_phrase}
use Rattle.text_parser.proofs.laws.phrases_are_unique.Goals as goal

pub returns : goal.returns
returns c x p q r s = one_phrase p q r s
