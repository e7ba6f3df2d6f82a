-- The hypotheses of assignments in the form in which they are computed: the forms of the variables after an assignment
-- are made once.
use Rattle.std.specs.Prelude.{ℕ, List, [], flat_map, Option}
use Rattle.std.specs.List.{enumerate_from}
use Rattle.flow_model.specs.declared.sort.Sort.{Sort}
use Rattle.flow_forms.specs.Forms.{FlowFormTree}
use Rattle.flow_forms.specs.Comparisons.{FlowComparisonTree}
use Rattle.flow_problem.specs.Edges.{assigned, given}
use Rattle.flow_problem.specs.Substitutions.{forms_after}
use Rattle.flow_problem.specs.FlowFacts.{FlowHypothesis, NumberedTest, NumberedAction, keeps_if_known}
use Rattle.flow_abstraction.specs.LiteralsWith.{literal_with}

-- the hypotheses of assignment i and a test, where `env` has the forms of the variables after the assignment
abbrev pub facts_with : List Sort → List FlowComparisonTree → ℕ → List (Option FlowFormTree) → List FlowFormTree → NumberedTest → List FlowHypothesis
facts_with sorts tests i os env (j, c) = keeps_if_known tests i j (literal_with sorts os env c)

-- the hypotheses of an action and each test
abbrev pub facts_of_action : List Sort → List FlowComparisonTree → NumberedAction → List FlowHypothesis
facts_of_action sorts tests (i, assigned os) = flat_map (facts_with sorts tests i os (forms_after sorts os)) (enumerate_from 0 tests)
facts_of_action sorts tests (i, given results) = []
