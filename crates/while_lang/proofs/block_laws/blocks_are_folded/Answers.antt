use Rattle.std.proofs.Common.{[]}
use Rattle.while_lang.specs.BlockBuilding.{block_trees}
use Rattle.while_lang.specs.BlockMeasuring.{extent, block_extents}
use Rattle.while_lang.proofs.BlockCompleteness.{parsed}
use Rattle.while_lang.proofs.block_laws.blocks_are_folded.Goals as goal

pub returns : goal.returns
returns c w ps d p ts o = (parsed (block_extents w ps) p d (extent 0 0) ts o, parsed (block_trees w ps) p d [] ts o)
