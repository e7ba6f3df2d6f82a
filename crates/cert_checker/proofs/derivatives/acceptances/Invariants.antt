use Rattle.std.proofs.Common.{◌≡◌, length}
use Rattle.cert_checker.specs.NodeTables.{TestsGrow}
use Rattle.cert_checker.specs.Targets.{AreAcceptances}
use Rattle.cert_checker.proofs.derivatives.acceptances.Given as goal

abbrev pub invariant-loop : goal.invariant-loop
invariant-loop l = record {
  count : length l.guards.items ≡ l.counter;
  grows : TestsGrow l.initial.tables l.tables;
  values : AreAcceptances l.tables l.guards.items;
}
