-- The problem of a question as definitions see it.
use Rattle.std.specs.Prelude.{map}
use Rattle.flow_forms.specs.Comparisons.{comparison_tree}
use Rattle.flow_edges.specs.EdgeViews.{flow_action}
use Rattle.flow_problem.specs.Points.{FlowProblem}
use Rattle.flow_abstraction.specs.declared.question.FlowAbstract.{FlowAbstract}

abbrev pub flow_problem_of : FlowAbstract → FlowProblem
flow_problem_of a =
    record { problem = a.problem; tests = map comparison_tree a.tests.items; actions = map flow_action a.actions.items }
