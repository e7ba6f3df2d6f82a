use Rattle.std.proofs.Common.{◌≡◌, ◌-◌}
use Rattle.store_trials.specs.StoreLists.{drawn_digits, state_after}
use Rattle.store_trials.proofs.draws.Draws.digits.Given as goal

-- the digits so far, and the remaining draws
abbrev pub invariant-loop : goal.invariant-loop
invariant-loop l = record {
  number : drawn_digits l.width (5 - l.counter) l.total l.self.state ≡ drawn_digits l.width 5 0 l.initial.self.state;
  state : state_after (5 - l.counter) l.self.state ≡ state_after 5 l.initial.self.state;
}
