use Rattle.std.proofs.Common.{map}
use Rattle.kat_model.specs.Members.{Has}
use Rattle.while_lang.specs.Files.{FileParts}
use Rattle.while_lang.specs.Trees.{goal_tree}
use Rattle.tool_decide.specs.Batch.{PosesSome}
use Rattle.tool_decide.specs.Working.GoalLists.{with_first}
use Rattle.tool_decide.proofs.batch.test_goals.Given as goal

-- the goals so far ask questions
abbrev pub invariant-loop-goal : goal.invariant-loop-goal
invariant-loop-goal l = (g : FileParts) → Has (with_first l.file l.goal-index (map goal_tree l.more)) g → PosesSome g
