use Rattle.std.proofs.Common.{length}
use Rattle.flow_places.proofs.elimination.+push_steps.Given as goal

-- each call is for the terms after the first one
abbrev pub decreases-push_steps : goal.decreases-push_steps
decreases-push_steps l = length l.own.now
