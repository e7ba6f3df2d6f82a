-- The facts of the first test, then those of its opposite.
use Rattle.std.proofs.Common.{map}
use Rattle.std.proofs.lemmas.Result.{on_ok_weaker}
use Rattle.kat_model.specs.Stores.{modulus}
use Rattle.kat_model.specs.declared.limits.TheConstants.{MAX_HYPS}
use Rattle.flow_abstraction.specs.HypothesisViews.{flow_hypothesis}
use Rattle.flow_abstraction.specs.ArcViews.{arc_of}
use Rattle.flow_abstraction.proofs.FactsByList.{three_signs}
use Rattle.flow_abstraction.proofs.interval.interval_facts.add_three_arc_facts.Goals as goal

pub returns : goal.returns
returns c =
    on_ok_weaker c.add_signed_arc_facts-2.result
    (three_signs (modulus c.args.width) c.args.i.now.number c.args.j.now.number c.args.k.now.number
    (arc_of c.args.i.now.interval.now.arc) (arc_of c.args.j.now.interval.now.arc) (arc_of c.args.k.now.interval.now.arc)
    MAX_HYPS (map flow_hypothesis c.args.list.now.items)
    (map flow_hypothesis c.add_signed_arc_facts.new.list.items) (map flow_hypothesis c.add_signed_arc_facts-2.new.list.items)
    (rw c.signed.ensures at c.in_ok-add_signed_arc_facts.ensures))
    (rw c.signed-2.ensures at c.add_signed_arc_facts-2.ensures)
