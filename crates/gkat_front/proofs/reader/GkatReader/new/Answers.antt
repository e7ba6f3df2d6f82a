use Rattle.problem_file.proofs.Numbering.{empty_numbered}
use Rattle.gkat_front.proofs.reader.GkatReader.new.Goals as goal

pub invariant_of-result : goal.invariant_of-result
invariant_of-result c = record { numbered = rw (c.new.ensures) empty_numbered }
