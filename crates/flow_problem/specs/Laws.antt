-- The laws of flow problems.
use Rattle.std.specs.Prelude.{◌≡◌, Ok}
use Rattle.kat_model.specs.Relations.{Same}
use Rattle.flow_model.specs.Graphs.{Pair}
use Rattle.flow_model.specs.Agreement.{AgreeAlways}
use Rattle.flow_problem.specs.Points.{FlowProblem, IsAbout}
use Rattle.flow_problem.specs.FlowProblems.{FlowQuestion, PairMarks, HasMarks, problem_by}
use Rattle.flow_problem.specs.PlacedProblems.{IsFlowPair, IsFlowProblem}

-- where both sides of a problem about two graphs are the same, the graphs always return the same
abbrev pub SameAgree : Type 0
SameAgree = (pair : Pair) (p : FlowProblem) → IsAbout pair p → Same p.problem → AgreeAlways pair

-- the problem of a question is about its graphs
abbrev pub ProblemsAreAbout : Type 0
ProblemsAreAbout =
    (q : FlowQuestion) (marks : PairMarks) (p : FlowProblem) → HasMarks q.pair marks → problem_by q marks ≡ Ok p → IsAbout q.pair p

-- where both sides of a problem with such marks are the same, the graphs always return the same
abbrev pub MarkedAgree : Type 0
MarkedAgree =
    (q : FlowQuestion) (marks : PairMarks) (p : FlowProblem) → HasMarks q.pair marks → problem_by q marks ≡ Ok p → Same p.problem → AgreeAlways q.pair

-- where both sides of the problem of two graphs are the same, the graphs always return the same
abbrev pub FlowAgrees : Type 0
FlowAgrees = (q : FlowQuestion) (p : FlowProblem) → IsFlowPair q.pair → IsFlowProblem q p → Same p.problem → AgreeAlways q.pair
