use Rattle.std.proofs.Common.{length}
use Rattle.flow_edges.proofs.action.+sets_nothing.Given as goal

-- each call is for the elements after the first one
abbrev pub decreases-sets_nothing : goal.decreases-sets_nothing
decreases-sets_nothing l = length l.forms.now
