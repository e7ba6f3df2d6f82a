-- The facts of the first one, then those of the others.
use Rattle.std.proofs.Common.{flat_map, map, ◌+◌}
use Rattle.std.specs.List.{enumerate_from}
use Rattle.std.proofs.lemmas.Result.{on_ok_weaker}
use Rattle.kat_model.specs.declared.limits.TheConstants.{MAX_HYPS}
use Rattle.flow_forms.specs.Forms.{form_tree}
use Rattle.flow_forms.specs.Comparisons.{comparison_tree}
use Rattle.flow_ways.specs.ActionTrees.{set_tree}
use Rattle.flow_abstraction.specs.ActionLists.{facts_with}
use Rattle.flow_abstraction.specs.HypothesisViews.{flow_hypothesis}
use Rattle.flow_abstraction.proofs.CappedHypotheses.{capped_then}
use Rattle.flow_abstraction.proofs.assignment.+add_tests_facts.Goals as goal

pub add_tests_facts_from-returns : goal.add_tests_facts_from-returns
add_tests_facts_from-returns t c =
    let facts = facts_with c.args.setting.now.sorts.now (map comparison_tree c.args.setting.now.tests.now) c.args.action.now.number (map set_tree c.args.action.now.sets.now) (map form_tree c.args.action.now.forms.now) in
    on_ok_weaker c.add_tests_facts.result
    (capped_then MAX_HYPS (map flow_hypothesis c.args.list.now.items) (map flow_hypothesis c.add_test_facts.new.list.items) (map flow_hypothesis c.add_tests_facts.new.list.items)
    (facts (c.args.number, comparison_tree c.args.test.now)) (flat_map facts (enumerate_from (c.args.number + 1) (map comparison_tree c.args.rest.now)))
    c.in_ok-add_test_facts.ensures)
    c.add_tests_facts.ensures
