use Rattle.std.proofs.Common.{◌≡◌, ◌-◌}
use Rattle.store_trials.specs.StoreLists.{state_after}
use Rattle.store_trials.proofs.draws.Draws.pass.Given as goal

abbrev pub invariant-loop : goal.invariant-loop
invariant-loop l = state_after (l.count - l.counter) l.self.state ≡ state_after l.count l.initial.self.state
