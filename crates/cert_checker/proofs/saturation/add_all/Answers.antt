use Rattle.cert_checker.proofs.Saturating.{added_more}
use Rattle.cert_checker.proofs.saturation.add_all.Goals as goal

pub loop-term-preserved : goal.loop-term-preserved
loop-term-preserved c =
    added_more c.args.set.now c.args.reached.now.keys c.loop-term.reached.keys c.insert.new.self.keys c.loop-term.term-index c.loop-term-test.true c.in_ok-insert.ensures.keys c.loop-term.invariant
