use Rattle.std.proofs.Common.{◌≡◌, false, ◌||◌, slice_index_or, sym, ◌∙◌, ap, subst}
use Rattle.flow_model.specs.Polish.{jump_of}
use Rattle.flow_places.specs.Reads.{values_read}
use Rattle.flow_places.specs.Live.{live_at_jump}
use Rattle.flow_places.specs.Tables.{noted}
use Rattle.flow_places.proofs.LiveRows.{at_return}
use Rattle.flow_places.proofs.live.mark_jump.Goals as goal

pub returns-in-Return : goal.returns-in-Return
returns-in-Return c = λ x h.
    subst (λ j. slice_index_or c.mark_values.new.live x false ≡ live_at_jump x (noted c.args.table.now x) (jump_of j)) (sym c.in-Return.is)
    (at_return x c.in-Return.values.items (noted c.args.table.now x) (slice_index_or c.args.live.now x false) (slice_index_or c.mark_values.new.live x false) (c.requires x)
    (c.mark_values.ensures x h ∙ ap (λ es. values_read x es || slice_index_or c.args.live.now x false) c.deref-in-Return.ensures.value))
