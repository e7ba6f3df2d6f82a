-- The facts of the first one, then those of the others.
use Rattle.std.proofs.Common.{flat_map, map, ◌+◌}
use Rattle.std.specs.List.{enumerate_from}
use Rattle.std.proofs.lemmas.Result.{on_ok_weaker}
use Rattle.kat_model.specs.declared.limits.TheConstants.{MAX_HYPS}
use Rattle.flow_forms.specs.Comparisons.{comparison_tree}
use Rattle.flow_abstraction.specs.FactLists.{order_fact_by}
use Rattle.flow_abstraction.specs.HypothesisViews.{flow_hypothesis}
use Rattle.flow_abstraction.proofs.CappedHypotheses.{capped_then}
use Rattle.flow_abstraction.proofs.facts.+add_order_facts.Goals as goal

pub add_order_facts_from-returns : goal.add_order_facts_from-returns
add_order_facts_from-returns t c =
    let facts = order_fact_by (c.args.first.now.number, comparison_tree c.args.first.now.test.now) in
    on_ok_weaker c.add_order_facts.result
    (capped_then MAX_HYPS (map flow_hypothesis c.args.list.now.items) (map flow_hypothesis c.add_order_fact.new.list.items) (map flow_hypothesis c.add_order_facts.new.list.items)
    (facts (c.args.number, comparison_tree c.args.second.now)) (flat_map facts (enumerate_from (c.args.number + 1) (map comparison_tree c.args.rest.now)))
    c.in_ok-add_order_fact.ensures)
    c.add_order_facts.ensures
