-- The facts of the first one, then those of the others.
use Rattle.std.proofs.Common.{flat_map, map, ◌+◌}
use Rattle.std.specs.List.{enumerate_from}
use Rattle.std.proofs.lemmas.Result.{on_ok_weaker}
use Rattle.kat_model.specs.declared.limits.TheConstants.{MAX_HYPS}
use Rattle.flow_forms.specs.Comparisons.{comparison_tree, literal_tree}
use Rattle.flow_abstraction.specs.Completions.{completed_fact}
use Rattle.flow_abstraction.specs.HypothesisViews.{flow_hypothesis}
use Rattle.flow_abstraction.proofs.CappedHypotheses.{capped_then}
use Rattle.flow_abstraction.proofs.completion.+add_completed.Goals as goal

pub add_completed_from-returns : goal.add_completed_from-returns
add_completed_from-returns t c =
    let facts = completed_fact c.args.pending (literal_tree c.args.literal.now) in
    on_ok_weaker c.add_completed.result
    (capped_then MAX_HYPS (map flow_hypothesis c.args.list.now.items) (map flow_hypothesis c.add_completed_by.new.list.items) (map flow_hypothesis c.add_completed.new.list.items)
    (facts (c.args.number, comparison_tree c.args.test.now)) (flat_map facts (enumerate_from (c.args.number + 1) (map comparison_tree c.args.rest.now)))
    c.in_ok-add_completed_by.ensures)
    c.add_completed.ensures
