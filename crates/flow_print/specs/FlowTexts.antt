-- The text of a flow problem: the problem as terms over plain names, and the meanings of its tests, actions and
-- hypotheses in comments.
use Rattle.std.specs.Prelude.{◌≤◌, ℕ, List, ◌∷◌, ◌++◌, length, map, codes, All}
use Rattle.std.specs.List.{enumerate_from}
use Rattle.kat_model.specs.declared.limits.TheConstants.{MAX_HYPS, MAX_OPEN, MAX_TEXT_BYTES}
use Rattle.kat_model.specs.Problems.{IsProblem}
use Rattle.text_parser.specs.declared.meaning.Meaning.{Meaning}
use Rattle.text_parser.specs.declared.meaning.Meaning.TheVariants.{Test, Action}
use Rattle.text_print.specs.Printing.{term_nesting}
use Rattle.problem_file.specs.Questions.{plain_name}
use Rattle.problem_file.specs.CommentedTexts.{Comments, commented_text, AreComments}
use Rattle.flow_forms.specs.Comparisons.{FlowComparisonTree}
use Rattle.flow_problem.specs.Edges.{FlowActionTree}
use Rattle.flow_problem.specs.FlowFacts.{FlowRule}
use Rattle.flow_problem.specs.Points.{FlowProblem}
use Rattle.flow_print.specs.NameTables.{NameTable}
use Rattle.flow_print.specs.FormTexts.{comparison_text}
use Rattle.flow_print.specs.ActionTexts.{action_text}
use Rattle.flow_print.specs.ReasonTexts.{comments_from}

-- ` NAME is TEXT`, the comment of a test or an action
abbrev pub row_comment : Meaning → List ℕ → List ℕ
row_comment m text = codes " " ++ plain_name m ++ codes " is " ++ text

abbrev pub test_comment : NameTable → ℕ × FlowComparisonTree → List ℕ
test_comment names (k, c) = row_comment (Test k) (comparison_text names c)

abbrev pub action_comment : NameTable → ℕ × FlowActionTree → List ℕ
action_comment names (k, a) = row_comment (Action k) (action_text names a)

-- what each test and each action is, and why each hypothesis holds: once before adjacent hypotheses with one reason
abbrev pub flow_comments : NameTable → List FlowRule → FlowProblem → Comments
flow_comments names rules p = record {
  tests = map (test_comment names) (enumerate_from 0 p.tests);
  actions = map (action_comment names) (enumerate_from 0 p.actions);
  hyps = comments_from rules 0 (length p.problem.hyps);
}

-- the text of a problem, with the reasons of its hypotheses
abbrev pub flow_text : NameTable → List FlowRule → FlowProblem → List ℕ
flow_text names rules p = commented_text plain_name (flow_comments names rules p) p.problem

-- each name is text in one line
pub record AreLines (names : NameTable) : Type 0 where
  pub variables : AreComments names.variables
  pub functions : AreComments names.functions

-- the names are lines, the question is a problem, and it and its text are within the limits on hypotheses, on open
-- constructs, and on bytes
pub record IsFlowPrintable (names : NameTable) (rules : List FlowRule) (p : FlowProblem) : Type 0 where
  pub lines : AreLines names
  pub problem : IsProblem p.problem
  pub hyps : length p.problem.hyps ≤ MAX_HYPS
  pub shallow : All (λ e. term_nesting e ≤ MAX_OPEN) (p.problem.left ∷ p.problem.right ∷ p.problem.hyps)
  pub short : length (flow_text names rules p) ≤ MAX_TEXT_BYTES
