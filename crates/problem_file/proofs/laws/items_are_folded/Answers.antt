use Rattle.problem_file.specs.Syntax.{checking}
use Rattle.problem_file.specs.Making.{making}
use Rattle.problem_file.proofs.FoldedItems.{items_folded}
use Rattle.problem_file.proofs.laws.items_are_folded.Goals as goal

pub returns : goal.returns
returns c = record { scanned = items_folded checking tt; made = items_folded making }
