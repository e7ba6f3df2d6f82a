use Rattle.std.proofs.Common.{◌≡◌}
use Rattle.test_diagrams.specs.Functions.{IsDiagramId}
use Rattle.tests_prover.proofs.diagrams.parity_of_all.Given as goal

abbrev pub invariant-loop-test : goal.invariant-loop-test
invariant-loop-test l = IsDiagramId l.diagrams l.parity × (l.diagrams.tests ≡ 40)
