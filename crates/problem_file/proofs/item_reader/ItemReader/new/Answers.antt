use Rattle.problem_file.proofs.Numbering.{empty_numbered}
use Rattle.problem_file.proofs.item_reader.ItemReader.new.Goals as goal

pub invariant_of-result : goal.invariant_of-result
invariant_of-result c = record { numbered = rw (c.new.ensures, c.new-2.ensures.items) empty_numbered }
