use Rattle.std.proofs.Common.{map}
use Rattle.while_lang.specs.Trees.{goal_tree}
use Rattle.tool_decide.specs.Batch.{AnswersFrom}
use Rattle.tool_decide.specs.Working.GoalLists.{with_first}
use Rattle.tool_decide.proofs.batch.answers_in.Given as goal

-- the goals so far are answered
abbrev pub invariant-loop-k : goal.invariant-loop-k
invariant-loop-k l = AnswersFrom 0 (with_first l.file l.k (map goal_tree l.more)) l.all.status l.all.output.items
