-- The facts of the first one, then those of the others.
use Rattle.std.proofs.Common.{flat_map, map, ◌+◌}
use Rattle.std.specs.List.{enumerate_from}
use Rattle.std.proofs.lemmas.Result.{on_ok_weaker}
use Rattle.kat_model.specs.declared.limits.TheConstants.{MAX_HYPS}
use Rattle.flow_forms.specs.Comparisons.{comparison_tree, literal_tree}
use Rattle.flow_abstraction.specs.FactLists.{next_numbers_at}
use Rattle.flow_abstraction.specs.HypothesisViews.{flow_hypothesis}
use Rattle.flow_abstraction.proofs.CappedHypotheses.{capped_then}
use Rattle.flow_abstraction.proofs.facts.+add_next_numbers.Goals as goal

pub add_next_numbers_from-returns : goal.add_next_numbers_from-returns
add_next_numbers_from-returns t c =
    let facts = next_numbers_at (enumerate_from 0 (map comparison_tree c.args.tests.now)) c.args.next.now.number (literal_tree c.args.next.now.less) (literal_tree c.args.next.now.equal) in
    on_ok_weaker c.add_next_numbers.result
    (capped_then MAX_HYPS (map flow_hypothesis c.args.list.now.items) (map flow_hypothesis c.add_next_numbers_at.new.list.items) (map flow_hypothesis c.add_next_numbers.new.list.items)
    (facts (c.args.number, comparison_tree c.args.second.now)) (flat_map facts (enumerate_from (c.args.number + 1) (map comparison_tree c.args.rest.now)))
    c.in_ok-add_next_numbers_at.ensures)
    c.add_next_numbers.ensures
