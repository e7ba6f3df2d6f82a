use Rattle.std.proofs.Common.{◌≡◌, ◌+◌, false, sym, ◌∙◌, ap, subst}
use Rattle.flow_places.specs.Tables.{noted}
use Rattle.flow_places.proofs.Sweeps.{noted_pushed}
use Rattle.flow_places.proofs.live.no_rows.Goals as goal

pub loop-k-preserved : goal.loop-k-preserved
loop-k-preserved c =
    record {
      rows = c.in_ok-push.ensures.len ∙ ap (λ n. n + 1) c.loop-k.invariant.rows;
      none = λ x k.
          subst (λ t. noted t x k ≡ false) (sym c.in_ok-push.ensures.items)
          (noted_pushed c.loop-k.table.items c.new-row.result x k c.loop-k.invariant.none c.new-row.ensures.items);
    }
