use Rattle.walk_up_to.proofs.ReachedRanges.{left_in_range, right_in_range}
use Rattle.walk_up_to.proofs.laws.members_are_in_range.Goals as goal

pub returns : goal.returns
returns c q es done e x problem walk listed = (
  left_in_range q problem es done walk e listed x,
  right_in_range q problem es done walk e listed x,
)
