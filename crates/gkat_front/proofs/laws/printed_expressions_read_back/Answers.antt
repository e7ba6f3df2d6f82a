use Rattle.gkat_front.proofs.PrintedGkat.{printed_back}
use Rattle.gkat_front.proofs.laws.printed_expressions_read_back.Goals as goal

pub returns : goal.returns
returns c w names e is len depth = printed_back w names e is len depth
