use Rattle.std.proofs.Common.{ap, ◌∙◌, take_all}
use Rattle.flow_text.specs.Checking.{seconds}
use Rattle.flow_text.proofs.MappedLists.{mapped_more}
use Rattle.flow_text.proofs.check.sorts_of.Goals as goal

pub loop-target-preserved : goal.loop-target-preserved
loop-target-preserved c = mapped_more (λ x. x.1) c.args.targets.now c.loop-target.target-index _ _ _ c.loop-target-test.true c.loop-target.invariant c.in_ok-append.ensures

pub returns : goal.returns
returns c = c.loop-target.invariant ∙ ap seconds (take_all c.loop-target.target-index c.args.targets.now c.loop-target-test.false)
