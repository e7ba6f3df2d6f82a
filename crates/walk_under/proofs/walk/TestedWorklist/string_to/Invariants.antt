use Rattle.std.proofs.Common.{◌≡◌, ℕ}
use Rattle.kat_model.specs.Members.{Has}
use Rattle.test_diagrams.specs.Functions.{IsDiagramId, KeepsFunctions}
use Rattle.walk_under.specs.Working.Walking.{WalkContext, IsUnderWay, IsDifference}
use Rattle.walk_under.proofs.Backward.{IsSoFar, level_at}
use Rattle.walk_under.proofs.walk.TestedWorklist.string_to.Given as goal

abbrev pub invariant-loop-origin : goal.invariant-loop-origin
invariant-loop-origin l = record {
  kept : KeepsFunctions l.initial.self.diagrams l.self.diagrams;
  listing : l.self.listing ≡ l.initial.self.listing;
  same : l.self.moves ≡ l.initial.self.moves;
  derivatives : l.self.derivatives ≡ l.initial.self.derivatives;
  regions : (id : ℕ) → Has l.regions.items id → IsDiagramId l.self.diagrams id;
  some : (s : WalkContext) × (n : ℕ) × IsUnderWay s l.initial.self l.fn.place × IsSoFar s l.initial.self n l.place l.first.items l.moves.items;
  each : (s : WalkContext) → IsUnderWay s l.initial.self l.fn.place → (d : IsDifference s l.initial.self l.fn.place l.fn.last.items) → IsSoFar s l.initial.self d.from.level l.place l.first.items l.moves.items;
}

-- the level of the previous pair is smaller
abbrev pub decreases-loop-origin : goal.decreases-loop-origin
decreases-loop-origin l = level_at l.initial.self.listing.entries.items l.place
