use Rattle.walk_up_to.proofs.StepsBack.{IsSpelling}
use Rattle.walk_up_to.proofs.string.string_to.Given as goal

abbrev pub invariant-loop-origin : goal.invariant-loop-origin
invariant-loop-origin l = IsSpelling l.pairs l.fn.place l.fn.last.items l.place l.first.items l.moves.items

-- each pair comes from an earlier one
abbrev pub decreases-loop-origin : goal.decreases-loop-origin
decreases-loop-origin l = l.place
