use Rattle.problem_file.proofs.NumberedStates.{are_in_ranges}
use Rattle.tests_programs.proofs.optimising.is_optimised.Goals as goal

pub is_optimised_in-requires : goal.is_optimised_in-requires
is_optimised_in-requires c = are_in_ranges c.as_bytes.result.now c.in_ok-file.file c.in_ok-file.ensures.answers
