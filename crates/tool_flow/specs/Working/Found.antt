-- What is found of a file: its problem, with a reason for each hypothesis.
use Rattle.std.specs.Prelude.{◌≡◌, map}
use Rattle.flow_text.specs.Checking.{FlowFileParts}
use Rattle.flow_abstraction.specs.HypothesisViews.{flow_rule}
use Rattle.flow_problem.specs.PlacedProblems.{IsFlowProblem}
use Rattle.flow_abstraction.specs.declared.fault.FlowFault.{FlowFault}
use Rattle.flow_abstraction.specs.declared.question.FlowAbstract.{FlowAbstract}
use Rattle.flow_abstraction.specs.Abstracts.{flow_problem_of}
use Rattle.tool_flow.specs.Questions.{question_of, IsRefused, rules_of}

-- the problem of the question of a file, which nothing refuses, and the reasons of its hypotheses
pub record IsFound (f : FlowFileParts) (a : FlowAbstract) : Type 0 where
  pub problem : IsFlowProblem (question_of f) (flow_problem_of a)
  pub unrefused : (fault : FlowFault) → IsRefused (question_of f) fault → ⊥
  pub rules : map flow_rule a.rules.items ≡ rules_of f (flow_problem_of a)
