use Rattle.std.proofs.Common.{sym, ap}
use Rattle.flow_model.specs.Polish.{graph_of}
use Rattle.flow_places.proofs.Reaching.{empty_shows}
use Rattle.flow_places.proofs.finding.leaves_loop.Goals as goal

pub returns : goal.returns
returns c =
    empty_shows (graph_of c.args.blocks.now) c.in_ok-walk.walk.heads.items c.in_ok-walk.walk.heads.len c.is_empty.result (sym c.in_ok-walk.walk.heads.ok.0) c.is_empty.ensures (ap (λ w. w.heads) c.in_ok-walk.ensures)
