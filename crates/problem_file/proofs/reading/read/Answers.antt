use Rattle.problem_file.proofs.ReadTexts.{no_fault}
use Rattle.problem_file.specs.declared.goal_limit.GoalLimit.TheVariants.{One}
use Rattle.problem_file.proofs.reading.read.Goals as goal

pub returns-clause-only : goal.returns-clause-only
returns-clause-only c f reads = no_fault One c.args.bytes.now reads.denotes c.in-Err.fault c.in-Err.ensures
