use Rattle.while_lang.proofs.BlockNestings.{sound_measured}
use Rattle.while_lang.proofs.block_laws.sound_blocks_are_measured.Goals as goal

pub returns : goal.returns
returns c = sound_measured
