use Rattle.while_lang.proofs.PrintedBlocks.{printed_back}
use Rattle.while_lang.proofs.laws.printed_programs_read_back.Goals as goal

pub returns : goal.returns
returns c = printed_back
