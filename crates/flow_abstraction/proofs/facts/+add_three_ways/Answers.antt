-- The facts of the first one, then those of the others.
use Rattle.std.proofs.Common.{flat_map, map, ◌+◌}
use Rattle.std.specs.List.{enumerate_from}
use Rattle.std.proofs.lemmas.Result.{on_ok_weaker}
use Rattle.kat_model.specs.declared.limits.TheConstants.{MAX_HYPS}
use Rattle.flow_forms.specs.Comparisons.{comparison_tree}
use Rattle.flow_abstraction.specs.FactLists.{three_ways}
use Rattle.flow_abstraction.specs.HypothesisViews.{flow_hypothesis}
use Rattle.flow_abstraction.proofs.CappedHypotheses.{capped_then}
use Rattle.flow_abstraction.proofs.facts.+add_three_ways.Goals as goal

pub add_three_ways_from-returns : goal.add_three_ways_from-returns
add_three_ways_from-returns t c =
    let facts = three_ways (enumerate_from 0 (map comparison_tree c.args.tests.now)) (c.args.first.now.number, comparison_tree c.args.first.now.test.now) in
    on_ok_weaker c.add_three_ways.result
    (capped_then MAX_HYPS (map flow_hypothesis c.args.list.now.items) (map flow_hypothesis c.add_three_ways_of.new.list.items) (map flow_hypothesis c.add_three_ways.new.list.items)
    (facts (c.args.number, comparison_tree c.args.second.now)) (flat_map facts (enumerate_from (c.args.number + 1) (map comparison_tree c.args.rest.now)))
    c.in_ok-add_three_ways_of.ensures)
    c.add_three_ways.ensures
