use Rattle.problem_file.proofs.WalkedItems.{items_are_made}
use Rattle.problem_file.proofs.laws.items_are_made.Goals as goal

pub returns : goal.returns
returns c = items_are_made
