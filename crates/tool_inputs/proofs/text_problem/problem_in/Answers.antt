use Rattle.tool_inputs.proofs.Ranges.{numbers_in_range}
use Rattle.tool_inputs.proofs.TextReplies.{file_poses}
use Rattle.tool_inputs.proofs.text_problem.problem_in.Goals as goal

pub problem_of-requires : goal.problem_of-requires
problem_of-requires c = numbers_in_range c.args.text.now c.in_ok-file.file c.in_ok-file.ensures

pub returns : goal.returns
returns c = file_poses c.args.text.now c.in_ok-file.file c.in_ok-file.ensures c.problem_of.result c.problem_of.ensures
