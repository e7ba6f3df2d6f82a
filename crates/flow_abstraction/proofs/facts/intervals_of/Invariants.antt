use Rattle.std.proofs.Common.{◌≡◌, map, take, option_map}
use Rattle.flow_forms.specs.Comparisons.{comparison_tree}
use Rattle.flow_problem.specs.FlowFacts.{interval_of}
use Rattle.flow_abstraction.specs.IntervalViews.{interval_tree}
use Rattle.flow_abstraction.proofs.facts.intervals_of.Given as goal

-- the intervals of the tests so far
abbrev pub invariant-loop-test : goal.invariant-loop-test
invariant-loop-test l = map (option_map interval_tree) l.list.items ≡ map interval_of (map comparison_tree (take l.test-index l.tests))
