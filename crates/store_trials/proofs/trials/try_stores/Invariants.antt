use Rattle.std.proofs.Common.{◌≤◌, ◌<◌, ◌+◌, ◌*◌, ℕ, drop}
use Rattle.while_lang.specs.Trees.{goal_tree}
use Rattle.store_trials.specs.Trials.{NeverShown, NoneShown}
use Rattle.store_trials.proofs.trials.try_stores.Given as goal

-- no store so far shows that the goal is false, and the runs that were cut short are counted
abbrev pub invariant-loop-store : goal.invariant-loop-store
invariant-loop-store l = record {
  none : (j : ℕ) → j < l.store-index → NeverShown l.width l.turns (goal_tree l.goal) l.stores j;
  counted : (c : ℕ) → NoneShown l.width l.turns (goal_tree l.goal) (drop l.store-index l.stores) c → NoneShown l.width l.turns (goal_tree l.goal) l.stores (l.cut + c);
  few : l.cut ≤ 2 * l.store-index;
}
