use Rattle.std.proofs.Common.{◌<◌, ◌↔◌, ℕ, map}
use Rattle.kat_model.specs.Members.{Has}
use Rattle.walk_pairs.proofs.order.action_counts.Given as goal

abbrev pub invariant-loop-act : goal.invariant-loop-act
invariant-loop-act l = (a : ℕ) → Has (map (λ p. p.1) l.list.items) a ↔ (a < l.act)
