use Rattle.std.proofs.Common.{◌-◌, inr, arith}
use Rattle.partial_derivs.proofs.Items.{has_item}
use Rattle.walk_under.proofs.smoothing.region_at.Goals as goal

pub returns-then-index-regions : goal.returns-then-index-regions
returns-then-index-regions c = inr (has_item c.args.regions.now (c.args.moves - c.args.place - 1) c.index-regions-index.result (omega arith) c.index-regions-index.is)
