-- A third test that is not further has no facts.
use Rattle.std.proofs.Common.{map, option_map, ap, sym, ◌∙◌}
use Rattle.kat_model.specs.declared.limits.TheConstants.{MAX_HYPS}
use Rattle.flow_abstraction.specs.HypothesisViews.{flow_hypothesis}
use Rattle.flow_abstraction.specs.IntervalViews.{interval_tree}
use Rattle.flow_abstraction.proofs.IntervalSteps.{no_third}
use Rattle.flow_abstraction.proofs.interval.interval_facts.add_third.Goals as goal

pub returns-then-not-is_further : goal.returns-then-not-is_further
returns-then-not-is_further c =
    no_third MAX_HYPS c.args.i.now.number c.args.j.now.number c.args.number
    (interval_tree c.args.i.now.interval.now) (interval_tree c.args.j.now.interval.now) (interval_tree c.in-Some.interval)
    (map flow_hypothesis c.args.list.now.items) (option_map interval_tree c.args.third.now)
    (ap (option_map interval_tree) c.in-Some.is) (sym c.is_further.ensures ∙ c.if-not-is_further.true)
