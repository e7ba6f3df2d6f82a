-- The hypotheses of actions and tests are those that are computed action by action.
use Rattle.std.proofs.Common.{◌≡◌, ℕ, List, map, position, Option, refl, sym, ap, ◌∙◌}
use Rattle.std.specs.List.{flat_map, enumerate_from}
use Rattle.kat_model.proofs.MappedRows.{position-map}
use Rattle.flow_model.specs.declared.sort.Sort.{Sort}
use Rattle.flow_forms.specs.Forms.{FlowFormTree}
use Rattle.flow_forms.specs.declared.comparison.FlowComparison.{FlowComparison}
use Rattle.flow_forms.specs.Comparisons.{FlowComparisonTree, comparison_tree, is_same_comparison}
use Rattle.flow_problem.specs.Edges.{FlowActionTree, assigned, given}
use Rattle.flow_problem.specs.Substitutions.{prim_of, forms_after}
use Rattle.flow_problem.specs.FlowFacts.{FlowHypothesis, NumberedAction, action_facts, for_pairs, flow_hypotheses, facts_between}
use Rattle.flow_abstraction.specs.CappedLists.{capped}
use Rattle.flow_abstraction.proofs.CappedHypotheses.{capped_then}
use Rattle.flow_abstraction.proofs.FactsByList.{flat_map_same, flat_map_none}
use Rattle.flow_abstraction.specs.ActionLists.{facts_with, facts_of_action}

-- the place of a comparison in the table of the program is that of its tree
pub place_is_prim : (tests : List FlowComparison) (c : FlowComparison) → position (λ x. is_same_comparison (comparison_tree c) (comparison_tree x)) tests ≡ prim_of (map comparison_tree tests) (comparison_tree c)
place_is_prim tests c = position-map comparison_tree (is_same_comparison (comparison_tree c)) tests

module _ (sorts : List Sort) (tests : List FlowComparisonTree) where
  action_by : (a : NumberedAction) → flat_map (action_facts sorts tests a) (enumerate_from 0 tests) ≡ facts_of_action sorts tests a
  action_by (i, assigned os) = refl
  action_by (i, given results) = flat_map_none (enumerate_from 0 tests)

  actions_by : (actions : List FlowActionTree) → for_pairs (action_facts sorts tests) (enumerate_from 0 actions) (enumerate_from 0 tests) ≡ flat_map (facts_of_action sorts tests) (enumerate_from 0 actions)
  actions_by actions = flat_map_same (λ (a : NumberedAction). flat_map (action_facts sorts tests a) (enumerate_from 0 tests)) (facts_of_action sorts tests) action_by (enumerate_from 0 actions)

  -- the forms of the variables are those after the assignment
  pub assigned_facts : (i n : ℕ) (os : List (Option FlowFormTree)) (env : List FlowFormTree) (old new : List FlowHypothesis) → env ≡ forms_after sorts os →
      new ≡ capped n old (flat_map (facts_with sorts tests i os env) (enumerate_from 0 tests)) → new ≡ capped n old (facts_of_action sorts tests (i, assigned os))
  assigned_facts i n os env old new e f = f ∙ ap (λ v. capped n old (flat_map (facts_with sorts tests i os v) (enumerate_from 0 tests))) e

  -- the hypotheses of assignments, then the facts between tests
  pub all_hypotheses : (actions : List FlowActionTree) (n : ℕ) (old mid new : List FlowHypothesis) → mid ≡ capped n old (flat_map (facts_of_action sorts tests) (enumerate_from 0 actions)) →
      new ≡ capped n mid (facts_between (enumerate_from 0 tests)) → new ≡ capped n old (flow_hypotheses sorts tests actions)
  all_hypotheses actions n old mid new e f =
      capped_then n old mid new (for_pairs (action_facts sorts tests) (enumerate_from 0 actions) (enumerate_from 0 tests)) (facts_between (enumerate_from 0 tests)) (e ∙ ap (capped n old) (let same = actions_by actions in sym same)) f
