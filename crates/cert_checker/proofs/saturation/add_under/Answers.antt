use Rattle.cert_checker.specs.Working.Rounds.{counting_in}
use Rattle.cert_checker.proofs.Saturating.{goes_then}
use Rattle.cert_checker.proofs.saturation.add_under.Goals as goal

pub loop-term-preserved : goal.loop-term-preserved
loop-term-preserved c =
    goes_then (counting_in c.args.counted.now) c.args.reached.now.keys c.loop-term.reached.keys c.add_pairs.new.reached.keys c.loop-term.invariant c.in_ok-add_pairs.ensures.goes_on
