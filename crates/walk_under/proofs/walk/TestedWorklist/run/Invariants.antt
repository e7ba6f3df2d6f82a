use Rattle.std.proofs.Common.{◌≡◌, ◌-◌, List}
use Rattle.kat_model.specs.Trees.{Term}
use Rattle.kat_model.specs.Problems.{ProblemParts}
use Rattle.term_nodes.specs.Growth.{Grows}
use Rattle.walk_under.specs.Working.Walking.{walk_context, IsUnderWay, walk_limit}
use Rattle.walk_under.proofs.walk.TestedWorklist.run.Given as goal

abbrev pub invariant-loop-place : goal.invariant-loop-place
invariant-loop-place l = record {
  some : (shorts : List Term) × (q : ProblemParts) × IsUnderWay (walk_context shorts q l.store) l.self l.place × (l.actions ≡ q.actions);
  each : (shorts : List Term) (q : ProblemParts) → l.actions ≡ q.actions → IsUnderWay (walk_context shorts q l.initial.store) l.initial.self 0 → IsUnderWay (walk_context shorts q l.store) l.self l.place;
  kept : Grows l.initial.store l.store;
}

-- the number of pairs is bounded
abbrev pub decreases-loop-place : goal.decreases-loop-place
decreases-loop-place l = walk_limit l.store l.self.diagrams.tests l.self.listing.entries.items - l.place
