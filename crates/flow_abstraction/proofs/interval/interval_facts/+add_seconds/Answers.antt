-- The facts of the first one, then those of the others.
use Rattle.std.proofs.Common.{flat_map, map, option_map, ◌+◌}
use Rattle.std.specs.List.{enumerate_from}
use Rattle.std.proofs.lemmas.Result.{on_ok_weaker}
use Rattle.kat_model.specs.declared.limits.TheConstants.{MAX_HYPS}
use Rattle.flow_abstraction.specs.IntervalViews.{interval_tree}
use Rattle.flow_abstraction.specs.FactLists.{interval_facts_with}
use Rattle.flow_abstraction.specs.HypothesisViews.{flow_hypothesis}
use Rattle.flow_abstraction.proofs.CappedHypotheses.{capped_then}
use Rattle.flow_abstraction.proofs.interval.interval_facts.+add_seconds.Goals as goal

pub add_seconds_from-returns : goal.add_seconds_from-returns
add_seconds_from-returns t c =
    let facts = interval_facts_with c.args.setting.now.count (enumerate_from 0 (map (option_map interval_tree) c.args.setting.now.intervals.now)) c.args.i.now.number (interval_tree c.args.i.now.interval.now) in
    on_ok_weaker c.add_seconds.result
    (capped_then MAX_HYPS (map flow_hypothesis c.args.list.now.items) (map flow_hypothesis c.add_second.new.list.items) (map flow_hypothesis c.add_seconds.new.list.items)
    (facts (c.args.number, option_map interval_tree c.args.second.now)) (flat_map facts (enumerate_from (c.args.number + 1) (map (option_map interval_tree) c.args.rest.now)))
    c.in_ok-add_second.ensures)
    c.add_seconds.ensures
