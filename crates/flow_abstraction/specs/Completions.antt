-- Hypotheses that a last test completes.
use Rattle.std.specs.Prelude.{ℕ, List}
use Rattle.kat_model.specs.Trees.{Term, prim}
use Rattle.flow_forms.specs.Comparisons.{FlowLiteralTree}
use Rattle.flow_problem.specs.Substitutions.{complement_of}
use Rattle.flow_problem.specs.FlowFacts.{FlowRule, by_equality, by_three_ways, by_next_number, FlowHypothesis, NumberedTest, fact_where, never_both, is_comparison, none_of_three}
use Rattle.flow_abstraction.specs.declared.completion.Pending.{Pending}
use Rattle.flow_abstraction.specs.declared.completion.Pending.TheVariants.{Equality, ThreeWays, NextNumber}

abbrev pub completed_rule : Pending → ℕ → FlowRule
completed_rule (Equality i) k = by_equality i k
completed_rule (ThreeWays i j) k = by_three_ways i j k
completed_rule (NextNumber i j) k = by_next_number i j k

abbrev pub completed_term : Pending → ℕ → Term
completed_term (Equality i) k = never_both i k
completed_term (ThreeWays i j) k = none_of_three (complement_of i) (complement_of j) (complement_of k)
completed_term (NextNumber i j) k = none_of_three (prim i) (complement_of j) (complement_of k)

-- the hypothesis, if the last test is the comparison that the condition is
abbrev pub completed_fact : Pending → FlowLiteralTree → NumberedTest → List FlowHypothesis
completed_fact p l (k, c) = fact_where (is_comparison l c) (completed_rule p k) (completed_term p k)
