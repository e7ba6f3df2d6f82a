-- The triple of a program that a file asks.
use Rattle.std.specs.Prelude.{◌≡◌, ◌⊎◌, ℕ, List, Ok}
use Rattle.while_lang.specs.Files.{FileParts}
use Rattle.abstraction.specs.Abstracts.{AbstractParts, abstract_of}
use Rattle.goal_forms.specs.TestTerms.{AreSimple}
use Rattle.outline_rules.specs.Tasks.{task_parts}
use Rattle.outline_rules.specs.declared.task.Task.{Task}
use Rattle.tool_decide.specs.declared.triple.Triple.{Triple}
use Rattle.tool_inputs.specs.TextProblem.{HasNoAbstraction}
use Rattle.tool_decide.specs.Triples.{HasTask, HasNoTask}

-- the problem of the abstraction with this task; all hypotheses are simple
pub record IsSimpleTriple (a : AbstractParts) (own : Task) (t : Triple) : Type 0 where
  pub problem : t.problem ≡ a.problem
  pub task : t.task ≡ own
  pub simple : AreSimple a.problem.hyps

-- the file has this triple
pub record IsTripleOfFile (f : FileParts) (t : Triple) : Type 0 where
  pub abstract : AbstractParts
  pub is_abstract : abstract_of f ≡ Ok abstract
  pub problem : t.problem ≡ abstract.problem
  pub task : HasTask f abstract.problem (task_parts t.task)

-- the file has no triple: it has no abstraction, or its question has no outlines
abbrev pub LacksTask : FileParts → List ℕ → Type 0
LacksTask f output = HasNoAbstraction f output ⊎ ((a : AbstractParts) × (abstract_of f ≡ Ok a) × HasNoTask f a.problem output)
