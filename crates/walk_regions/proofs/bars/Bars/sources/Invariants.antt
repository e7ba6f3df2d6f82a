use Rattle.test_diagrams.specs.Functions.{KeepsFunctions}
use Rattle.walk_regions.specs.Bars.{AreSources}
use Rattle.walk_regions.proofs.bars.Bars.sources.Given as goal

abbrev pub invariant-loop-bar : goal.invariant-loop-bar
invariant-loop-bar l = record {
  kept : KeepsFunctions l.initial.diagrams l.diagrams;
  sources : AreSources l.diagrams l.self.bars.items l.fn.region l.after l.bar-index l.id;
}
