-- The facts of the first one, then those of the others.
use Rattle.std.proofs.Common.{flat_map, map, ◌+◌}
use Rattle.std.specs.List.{enumerate_from}
use Rattle.std.proofs.lemmas.Result.{on_ok_weaker}
use Rattle.kat_model.specs.declared.limits.TheConstants.{MAX_HYPS}
use Rattle.flow_forms.specs.Comparisons.{comparison_tree}
use Rattle.flow_abstraction.specs.FactLists.{first_facts}
use Rattle.flow_abstraction.specs.HypothesisViews.{flow_hypothesis}
use Rattle.flow_abstraction.proofs.CappedHypotheses.{capped_then}
use Rattle.flow_abstraction.proofs.facts.+add_facts.Goals as goal

pub add_facts_from-returns : goal.add_facts_from-returns
add_facts_from-returns t c =
    let facts = first_facts c.args.kind (enumerate_from 0 (map comparison_tree c.args.tests.now)) in
    on_ok_weaker c.add_facts.result
    (capped_then MAX_HYPS (map flow_hypothesis c.args.list.now.items) (map flow_hypothesis c.add_first_facts.new.list.items) (map flow_hypothesis c.add_facts.new.list.items)
    (facts (c.args.first.now.number, comparison_tree c.args.first.now.test.now)) (flat_map facts (enumerate_from (c.args.first.now.number + 1) (map comparison_tree c.args.rest.now)))
    c.in_ok-add_first_facts.ensures)
    c.add_facts.ensures
