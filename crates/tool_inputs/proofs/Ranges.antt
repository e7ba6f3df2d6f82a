-- The file that a text is read as has its numbers in range.
use Rattle.std.proofs.Common.{ℕ, List}
use Rattle.while_lang.specs.Files.{FileParts}
use Rattle.problem_file.specs.Reads.{Reads}
use Rattle.problem_file.proofs.NumberedStates.{are_in_ranges}
use Rattle.abstraction.specs.Abstracts.{HasNumbersInRange}

pub numbers_in_range : (text : List ℕ) (f : FileParts) → Reads text f → HasNumbersInRange f
numbers_in_range text f reads = let numbered = are_in_ranges text f reads in record { hyps = numbered.hyps; goal = numbered.goal }
