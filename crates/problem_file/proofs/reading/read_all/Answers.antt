use Rattle.problem_file.proofs.ReadTexts.{only_memory, all_answered}
use Rattle.problem_file.specs.declared.goal_limit.GoalLimit.TheVariants.{Batch}
use Rattle.problem_file.proofs.reading.read_all.Goals as goal

pub returns-clause-answers : goal.returns-clause-answers
returns-clause-answers c = all_answered c.args.bytes.now c.read_files.result c.read_files.ensures

pub returns-clause-only : goal.returns-clause-only
returns-clause-only c f more reads = only_memory Batch c.args.bytes.now reads.denotes c.read_files.result c.read_files.ensures
