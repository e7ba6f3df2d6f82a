use Rattle.std.proofs.Common.{◌≡◌, drop}
use Rattle.store_trials.specs.Following.{moves_followed}
use Rattle.store_trials.proofs.followed.moves_followed.Given as goal

-- the remaining moves decide, from the store here
abbrev pub invariant-loop-step : goal.invariant-loop-step
invariant-loop-step l = moves_followed l.shown (drop l.step-index l.moves) l.store ≡ moves_followed l.shown l.moves l.initial.store
