use Rattle.std.specs.Prelude.{Vec, length}
use Rattle.std.specs.declared.alloc.Global.{Global}
use Rattle.flow_matches.specs.declared.leaves.Leave.{Leave}
use Rattle.flow_matches.proofs.SideSteps.{counted_end}
use Rattle.flow_matches.proofs.side.count_points.Goals as goal

pub returns : goal.returns
returns c = counted_end (λ (v : Vec Leave Global). length v.items) c.args.leaves.now c.loop-exits.exits-index c.loop-exits.number _ c.loop-exits-test.false c.loop-exits.invariant
