use Rattle.while_lang.proofs.BlockMeasures.{measures_of_trees}
use Rattle.while_lang.proofs.block_laws.block_measures_are_of_trees.Goals as goal

pub returns : goal.returns
returns c = measures_of_trees
