use Rattle.test_diagrams.specs.Functions.{KeepsFunctions}
use Rattle.walk_regions.specs.Bars.{IsForgotten}
use Rattle.walk_regions.proofs.bars.forget.Given as goal

abbrev pub invariant-loop-test : goal.invariant-loop-test
invariant-loop-test l = record {
  kept : KeepsFunctions l.initial.diagrams l.diagrams;
  forgotten : IsForgotten l.diagrams l.fn.whole l.tests l.id;
}
