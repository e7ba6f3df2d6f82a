use Rattle.problem_file.proofs.NumberedStates.{are_in_ranges}
use Rattle.tests_text.proofs.abstractions.file_of.Goals as goal

pub returns-in-Ok : goal.returns-in-Ok
returns-in-Ok c = let numbered = are_in_ranges c.args.bytes.now c.in-Ok.file c.in-Ok.ensures.answers in record { hyps = numbered.hyps; goal = numbered.goal }
