use Rattle.text_parser.specs.Building.{trees}
use Rattle.text_parser.specs.Measuring.{extents}
use Rattle.text_parser.proofs.Passes.{phrases_passed}
use Rattle.text_parser.proofs.laws.phrases_are_passed.Goals as goal

pub returns-clause-measures : goal.returns-clause-measures
returns-clause-measures c w = phrases_passed (extents w)

pub returns-clause-trees : goal.returns-clause-trees
returns-clause-trees c w = phrases_passed (trees w)
