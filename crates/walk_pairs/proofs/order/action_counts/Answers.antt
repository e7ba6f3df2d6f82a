use Rattle.std.proofs.Common.{ℕ, ◌↔◌, ◌<◌, ◌+◌, sym, subst}
use Rattle.kat_model.specs.Members.{Has}
use Rattle.walk_pairs.proofs.ActionOrders.{acts_of, counted_next}
use Rattle.walk_pairs.proofs.order.action_counts.Goals as goal

pub loop-act-preserved : goal.loop-act-preserved
loop-act-preserved c =
    subst (λ ps. (a : ℕ) → Has (acts_of ps) a ↔ (a < c.loop-act.act + 1)) (sym c.in_ok-append.ensures)
    (counted_next c.loop-act.list.items _ c.loop-act.act c.loop-act.invariant)
