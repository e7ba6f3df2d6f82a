-- The rules and hypotheses of the program.
use Rattle.std.specs.Prelude.{[], ◌∷◌}
use Rattle.kat_model.specs.Trees.{kat_tree}
use Rattle.flow_problem.specs.FlowFacts.{FlowRule, by_assignment, by_order, by_equality, by_three_ways, by_intervals, by_next_number, FlowHypothesis}
use Rattle.flow_abstraction.specs.declared.hypothesis.FlowRule.{FlowRule as ARule}
use Rattle.flow_abstraction.specs.declared.hypothesis.FlowRule.TheVariants.{Assignment, Order, Equality, ThreeWays, TwoIntervals, ThreeIntervals, NextNumber}
use Rattle.flow_abstraction.specs.declared.hypothesis.FlowHypothesis.{FlowHypothesis as AHypothesis}

abbrev pub flow_rule : ARule → FlowRule
flow_rule (Assignment i j) = by_assignment i j
flow_rule (Order i j) = by_order i j
flow_rule (Equality i j) = by_equality i j
flow_rule (ThreeWays i j k) = by_three_ways i j k
flow_rule (TwoIntervals i j) = by_intervals (i ∷ j ∷ [])
flow_rule (ThreeIntervals i j k) = by_intervals (i ∷ j ∷ k ∷ [])
flow_rule (NextNumber i j k) = by_next_number i j k

abbrev pub flow_hypothesis : AHypothesis → FlowHypothesis
flow_hypothesis h = record { rule = flow_rule h.rule; term = kat_tree h.term }
