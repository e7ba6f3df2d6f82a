-- A task of an outline: the triple of a program.
use Rattle.std.specs.Prelude.{◌≡◌}
use Rattle.kat_model.specs.Trees.{TestTree, test_tree}
use Rattle.kat_model.specs.Problems.{ProblemParts}
use Rattle.goal_forms.specs.Sides.{triple_sides}
use Rattle.while_lang.specs.Flows.{FlowTree}
use Rattle.while_lang.specs.Encoding.{encoded}
use Rattle.outline_rules.specs.declared.task.Task.{Task}

pub record TaskParts : Type 0 where
  pub pre : TestTree
  pub flow : FlowTree
  pub post : TestTree

-- the parts of a task as trees
abbrev pub task_parts : Task → TaskParts
task_parts t = record { pre = test_tree t.pre; flow = t.flow; post = test_tree t.post }

-- the sides of the problem are those of the triple of the task
abbrev pub IsTripleOf : ProblemParts → TaskParts → Type 0
IsTripleOf q t = record { left = q.left; right = q.right } ≡ triple_sides t.pre (encoded t.flow) t.post
