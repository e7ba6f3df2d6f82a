-- The states under an interpretation as a Kripke frame: tests are the truth of comparisons, and actions are parallel
-- assignments.
use Rattle.std.specs.Prelude.{◌≡◌, ◌↔◌, ℕ, List, [], ◌∷◌, length, map, slice_get, Option, Some, None}
use Rattle.kat_model.specs.Trees.{Term}
use Rattle.kat_model.specs.Members.{Has}
use Rattle.kat_model.specs.Problems.{ProblemParts}
use Rattle.kat_model.specs.Relations.{Frame, RelatesIn}
use Rattle.flow_model.specs.declared.sort.Sort.{Sort}
use Rattle.flow_model.specs.Sorts.{State, IsState}
use Rattle.flow_model.specs.Graphs.{Pair, Graph}
use Rattle.flow_model.specs.Interpretations.{Interpretation}
use Rattle.flow_model.specs.Runs.{Returns}
use Rattle.flow_forms.specs.Values.{form_value}
use Rattle.flow_forms.specs.Comparisons.{FlowComparisonTree, comparison_holds}
use Rattle.flow_ways.specs.Actions.{after_action}
use Rattle.flow_problem.specs.Edges.{FlowActionTree, assigned, given}

-- where a run is: in a state, or at its end, with the values that it returned
pub data RunPoint : Type 0 where
  at : (s : State) → RunPoint
  ended : (values : List ℕ) → RunPoint

-- the numbers at a point, by which tests are true or false
abbrev pub numbers_at : RunPoint → List ℕ
numbers_at (at s) = s
numbers_at (ended vs) = vs

abbrev pub IsPoint : List Sort → RunPoint → Type 0
IsPoint sorts (at s) = IsState sorts s
IsPoint sorts (ended vs) = Unit {0}

-- the point that an action leads to from a state
abbrev pub point_after : Interpretation → List Sort → FlowActionTree → State → RunPoint
point_after I sorts (assigned forms) s = at (after_action I s sorts forms)
point_after I sorts (given []) s = at s
point_after I sorts (given (r ∷ rs)) s = ended (map (λ x. form_value I s x.0 x.1) (r ∷ rs))

abbrev pub ActsAt : Interpretation → List Sort → Option FlowActionTree → RunPoint → RunPoint → Type 0
ActsAt I sorts None p q = ⊥
ActsAt I sorts (Some action) (at s) q = q ≡ point_after I sorts action s
ActsAt I sorts (Some action) (ended vs) q = ⊥

abbrev pub point_frame : Interpretation → List Sort → List FlowComparisonTree → List FlowActionTree → Frame RunPoint
point_frame I sorts tests actions = record {
  IsState = IsPoint sorts;
  atom = λ p. map (comparison_holds I (numbers_at p)) tests;
  Acts = λ k p q. ActsAt I sorts (slice_get actions k) p q;
}

-- a point at which a run that returns these values may end; a run that returns no values ends where it is
abbrev pub ReturnsAt : RunPoint → List ℕ → Type 0
ReturnsAt (at s) vs = vs ≡ []
ReturnsAt (ended ws) vs = ws ≡ vs

-- the term leads from the state to the end of a run that returns these values
abbrev pub LeadsToEnd : Frame RunPoint → Term → State → List ℕ → Type 0
LeadsToEnd frame e s vs = (p : RunPoint) × frame.IsState p × RelatesIn frame e (at s) p × ReturnsAt p vs

-- a term of a graph: it leads from each state to the ends of the runs of the graph
abbrev pub IsGraphTerm : List Sort → Graph → List FlowComparisonTree → List FlowActionTree → Term → Type 0
IsGraphTerm sorts g tests actions e =
    (I : Interpretation) (s : State) → IsState sorts s → (vs : List ℕ) → Returns I g s vs ↔ LeadsToEnd (point_frame I sorts tests actions) e s vs

-- a problem, with the comparison of each test and the assignment of each action
pub record FlowProblem : Type 0 where
  pub problem : ProblemParts
  pub tests : List FlowComparisonTree
  pub actions : List FlowActionTree

-- the problem asks whether two graphs return the same: its hypotheses hold of all states under all interpretations, and
-- its sides are terms of the graphs
pub record IsAbout (pair : Pair) (p : FlowProblem) : Type 0 where
  pub tests : p.problem.tests ≡ length p.tests
  pub actions : p.problem.actions ≡ length p.actions
  pub hypotheses : (I : Interpretation) (h : Term) → Has p.problem.hyps h → (s t : RunPoint) → IsPoint pair.sorts s → IsPoint pair.sorts t →
      RelatesIn (point_frame I pair.sorts p.tests p.actions) h s t → ⊥
  pub left : IsGraphTerm pair.sorts pair.before p.tests p.actions p.problem.left
  pub right : IsGraphTerm pair.sorts pair.after p.tests p.actions p.problem.right
