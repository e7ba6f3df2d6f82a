use Rattle.std.proofs.Common.{◌≡◌, take}
use Rattle.abstraction.proofs.rounds.copies.Given as goal

abbrev pub invariant-loop-atomic : goal.invariant-loop-atomic
invariant-loop-atomic l = l.list.items ≡ take l.atomic-index l.atomics
