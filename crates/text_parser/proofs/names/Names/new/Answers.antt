use Rattle.text_parser.proofs.Inverse.{inverse_empty}
use Rattle.text_parser.proofs.names.Names.new.Goals as goal

pub invariant_of-result : goal.invariant_of-result
invariant_of-result c = inverse_empty c.new.result c.new-2.result c.new.ensures.empty c.new-2.ensures.empty
