-- The problem of two graphs of the program, or the reason why they have none.
use Rattle.flow_problem.specs.PlacedProblems.{IsFlowProblem}
use Rattle.flow_abstraction.specs.Abstracts.{flow_problem_of}
use Rattle.flow_abstraction.specs.PosedQuestion.{PosedQuestion, question_of, HasNoFault, IsRefused}
use Rattle.piece_problems.specs.declared.problem.PieceProblem.{PieceProblem}
use Rattle.piece_problems.specs.declared.problem.PieceProblem.TheVariants.{SameText, Found, Ambiguous, Refused}

-- the question has this problem, which nothing refuses, or it is refused for this reason
abbrev pub IsProblemBetween : PosedQuestion → PieceProblem → Type 0
IsProblemBetween a (Found found) = IsFlowProblem (question_of a) (flow_problem_of found) × HasNoFault a
IsProblemBetween a (Refused fault) = IsRefused a fault
IsProblemBetween a SameText = ⊥
IsProblemBetween a (Ambiguous i j) = ⊥
