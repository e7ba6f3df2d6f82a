use Rattle.problem_file.proofs.NumberedStates.{are_in_ranges, all_are_in_ranges}
use Rattle.problem_file.proofs.laws.are_in_ranges.Goals as goal

pub returns-clause-one : goal.returns-clause-one
returns-clause-one c = are_in_ranges

pub returns-clause-all : goal.returns-clause-all
returns-clause-all c = all_are_in_ranges
