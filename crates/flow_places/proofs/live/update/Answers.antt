use Rattle.std.proofs.Common.{◌||◌, Some, ◌∙◌, ap, arith}
use Rattle.flow_model.specs.Polish.{block_of}
use Rattle.flow_places.specs.Live.{live_at_block}
use Rattle.flow_places.specs.Tables.{noted}
use Rattle.flow_places.proofs.Sweeps.{noted_here, noted_there}
use Rattle.flow_places.proofs.live.update.Goals as goal

pub returns-clause-here : goal.returns-clause-here
returns-clause-here c = λ x h.
    noted_here c.args.table.now.items c.args.number x c.in_ok-row.row (omega (arith, c.requires, c.args.table.now.ok.0))
    ∙ c.in_ok-row.ensures.row x h
    ∙ ap (λ t. live_at_block x (noted t x) (Some (block_of c.args.block.now)) || noted t x c.args.number) c.deref.ensures.value

pub returns-clause-elsewhere : goal.returns-clause-elsewhere
returns-clause-elsewhere c = λ x k n. noted_there c.args.table.now.items c.args.number k x c.in_ok-row.row n
