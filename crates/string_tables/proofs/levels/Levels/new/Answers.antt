use Rattle.string_tables.proofs.Rooms.{made_even, depth_fits}
use Rattle.string_tables.proofs.levels.Levels.new.Goals as goal

pub invariant_of-result : goal.invariant_of-result
invariant_of-result c =
    let below = c.in_ok-matrices.ensures in
    made_even _ _ _ _ _ _ _ c.in_ok-new.ensures below.length below.sizes c.in_ok-new-2.ensures c.in_ok-new-3.ensures c.in_ok-rows.ensures

pub returns-clause-states : goal.returns-clause-states
returns-clause-states c = c.in_ok-new.ensures

pub returns-clause-depth : goal.returns-clause-depth
returns-clause-depth c = depth_fits _ _ _ c.saturating_sub-below.ensures c.in_ok-matrices.ensures.length
