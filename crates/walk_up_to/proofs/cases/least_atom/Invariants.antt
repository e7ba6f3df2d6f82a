use Rattle.std.proofs.Common.{◌≡◌, ◌++◌, drop}
use Rattle.walk_up_to.specs.Cases.{least_of}
use Rattle.walk_up_to.proofs.cases.least_atom.Given as goal

abbrev pub invariant-loop-value : goal.invariant-loop-value
invariant-loop-value l = l.atom.items ++ least_of (drop l.value-index l.decided) ≡ least_of l.decided
