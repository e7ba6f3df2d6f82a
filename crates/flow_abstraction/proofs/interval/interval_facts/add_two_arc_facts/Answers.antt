-- The facts of the four pairs of signs, one after another.
use Rattle.std.proofs.Common.{Bool, true, false, List, map}
use Rattle.std.proofs.lemmas.Result.{on_ok_weaker}
use Rattle.kat_model.specs.Stores.{modulus}
use Rattle.kat_model.specs.declared.limits.TheConstants.{MAX_HYPS}
use Rattle.flow_problem.specs.FlowFacts.{FlowHypothesis, two_arc_fact}
use Rattle.flow_abstraction.specs.HypothesisViews.{flow_hypothesis}
use Rattle.flow_abstraction.specs.ArcViews.{arc_of}
use Rattle.flow_abstraction.proofs.CappedHypotheses.{capped_four}
use Rattle.flow_abstraction.proofs.interval.interval_facts.add_two_arc_facts.Goals as goal

pub returns : goal.returns
returns c =
    let fact : Bool → Bool → List FlowHypothesis = λ p q.
    two_arc_fact (modulus c.args.width) c.args.i.now.number c.args.j.now.number (arc_of c.args.i.now.interval.now.arc) (arc_of c.args.j.now.interval.now.arc) p q in
    on_ok_weaker c.add_two_arc_fact-4.result
    (capped_four MAX_HYPS (map flow_hypothesis c.args.list.now.items)
    (map flow_hypothesis c.add_two_arc_fact.new.list.items) (map flow_hypothesis c.add_two_arc_fact-2.new.list.items)
    (map flow_hypothesis c.add_two_arc_fact-3.new.list.items) (map flow_hypothesis c.add_two_arc_fact-4.new.list.items)
    (fact true true) (fact true false) (fact false true) (fact false false)
    (rw (c.signed.ensures, c.signed-2.ensures) at c.in_ok-add_two_arc_fact.ensures)
    (rw (c.signed-3.ensures, c.signed-4.ensures) at c.in_ok-add_two_arc_fact-2.ensures)
    (rw (c.signed-5.ensures, c.signed-6.ensures) at c.in_ok-add_two_arc_fact-3.ensures))
    (rw (c.signed-7.ensures, c.signed-8.ensures) at c.add_two_arc_fact-4.ensures)
