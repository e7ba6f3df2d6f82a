use Rattle.cert_checker.proofs.SideTurns.{side_added, side_whole}
use Rattle.cert_checker.proofs.sides.side_of.Goals as goal

pub loop-term-preserved : goal.loop-term-preserved
loop-term-preserved c =
    side_added c.args.known.now c.args.others.now.entries c.args.targets.now.entries c.loop-term.term-iterator c.next.new.self (c.in-Some.term.now, c.in-Some.guard.now) c.in-Some.ensures.steps c.loop-term.side c.add_target.new.side
    c.loop-term.invariant c.in_ok-add_target.ensures

pub returns : goal.returns
returns c = side_whole c.args.known.now c.args.others.now.entries c.args.targets.now.entries c.loop-term.side c.loop-term.term-iterator c.in-None.ensures.steps.0 c.iter-term-items.ensures.ordered c.loop-term.invariant
