-- The triple of a program that a text asks, which an outline proves, or why it asks none.
use Rattle.std.specs.Prelude.{◌≡◌, ◌⊎◌, ℕ, List, Option, None, Some}
use Rattle.kat_model.specs.Trees.{Term}
use Rattle.kat_model.specs.Problems.{ProblemParts}
use Rattle.while_lang.specs.Files.{term_side, prog_side, GoalTree, equal, below, triple, FileParts}
use Rattle.abstraction.specs.Tables.{Tables}
use Rattle.abstraction.specs.Rounds.{tables_of}
use Rattle.abstraction.specs.Tests.{cond_test, prog_flow}
use Rattle.goal_forms.specs.TestTerms.{AreSimple, IsNotSimple}
use Rattle.outline_rules.specs.Tasks.{TaskParts, IsTripleOf}
use Rattle.tool_inputs.specs.FileProblem.{Poses}
use Rattle.tool_inputs.specs.TextProblem.{HasNoProblem}
use Rattle.tool_inputs.specs.Steps.{ReplySpec, IsRefusal, ReadsText, AbstractsFile}
use Rattle.kat_report.specs.OutlineLines.{not_a_triple_line, not_simple_line}

-- the task of a goal, by the rows of tables, if the goal is a triple of a program
abbrev pub goal_task : Tables → GoalTree → Option TaskParts
goal_task t (equal l r) = None
goal_task t (below l r) = None
goal_task t (triple pre (term_side e) post) = None
goal_task t (triple pre (prog_side p) post) = Some (record { pre = cond_test t pre; flow = prog_flow t p; post = cond_test t post })

-- the task of a file's goal, by the rows of the file
abbrev pub file_task : FileParts → Option TaskParts
file_task f = goal_task (tables_of f) f.goal

-- the goal of the file is a triple of a program with this task, and all hypotheses of the question are simple
pub record HasTask (f : FileParts) (q : ProblemParts) (t : TaskParts) : Type 0 where
  pub is_task : file_task f ≡ Some t
  pub simple : AreSimple q.hyps

-- the goal is not a triple of a program, and the printed line says so
pub record PosesNoTriple (f : FileParts) (output : List ℕ) : Type 0 where
  pub none : file_task f ≡ None
  pub printed : output ≡ not_a_triple_line

-- some hypothesis is not simple, and the printed line gives the least number of such a hypothesis
pub record ReportsNotSimple (hyps : List Term) (output : List ℕ) : Type 0 where
  pub hyp : ℕ
  pub least : IsNotSimple hyps hyp
  pub printed : output ≡ not_simple_line hyp

-- the goal is not a triple of a program, or it is and some hypothesis is not simple
abbrev pub HasNoTask : FileParts → ProblemParts → List ℕ → Type 0
HasNoTask f q output = PosesNoTriple f output ⊎ ((t : TaskParts) × (file_task f ≡ Some t) × ReportsNotSimple q.hyps output)

-- the question of a file is taken as a triple: it is not one, or the command continues with the triple
abbrev pub TakesTask : (ProblemParts → TaskParts → ReplySpec) → FileParts → ProblemParts → ReplySpec
TakesTask GoesOn f q status output = IsRefusal (HasNoTask f q) status output ⊎ ((t : TaskParts) × HasTask f q t × GoesOn q t status output)

-- a text is read and abstracted, and its question is taken as a triple
abbrev pub AnswersTask : List ℕ → (ProblemParts → TaskParts → ReplySpec) → ReplySpec
AnswersTask text GoesOn = ReadsText text (λ f. AbstractsFile f (λ a. TakesTask GoesOn f a.problem))

-- the text asks this triple, and the sides of the question are those of the triple
pub record PosesTask (text : List ℕ) (q : ProblemParts) (t : TaskParts) : Type 0 where
  pub poses : Poses text q
  pub task : HasTask poses.file q t
  pub sides : IsTripleOf q t

-- the text asks no triple, and the printed line gives the reason
abbrev pub PosesNoTask : List ℕ → List ℕ → Type 0
PosesNoTask text output = HasNoProblem text output ⊎ ((q : ProblemParts) × (poses : Poses text q) × HasNoTask poses.file q output)

-- the text asks some triple
abbrev pub PosesSomeTask : List ℕ → Type 0
PosesSomeTask text = (q : ProblemParts) × (t : TaskParts) × PosesTask text q t
