use Rattle.while_lang.proofs.ScannedBlocks.{blocks_taken}
use Rattle.while_lang.proofs.block_laws.blocks_are_scanned.Goals as goal

pub returns : goal.returns
returns c = blocks_taken
