use Rattle.std.proofs.Common.{length}
use Rattle.flow_places.proofs.sizes.+steps_size.Given as goal

-- each call is for the terms after the first one
abbrev pub decreases-steps_size : goal.decreases-steps_size
decreases-steps_size l = length l.own.now
