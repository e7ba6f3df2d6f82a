use Rattle.test_diagrams.specs.Functions.{KeepsFunctions}
use Rattle.walk_regions.specs.Working.Querying.{AreFreshTests}
use Rattle.walk_regions.proofs.querying.fresh_tests.Given as goal

abbrev pub invariant-loop-test : goal.invariant-loop-test
invariant-loop-test l = record {
  kept : KeepsFunctions l.initial.diagrams l.diagrams;
  fresh : AreFreshTests l.diagrams l.id l.initial.queried l.queried l.test l.fresh.items;
}
