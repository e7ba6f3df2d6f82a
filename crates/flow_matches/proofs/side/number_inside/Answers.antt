use Rattle.std.proofs.Common.{false, slice_index_or}
use Rattle.flow_matches.proofs.SideSteps.{numbered_end}
use Rattle.flow_matches.proofs.side.number_inside.Goals as goal

pub returns : goal.returns
returns c = numbered_end (λ k. slice_index_or c.args.stops.now k false) c.args.inside.now c.loop-place.place c.loop-place.targets.items _ c.loop-place-test.false c.loop-place.invariant
