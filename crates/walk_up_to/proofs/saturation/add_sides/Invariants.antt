use Rattle.std.proofs.Common.{◌≡◌, ◌<◌, ℕ, false, Some, slice_get}
use Rattle.walk_up_to.specs.declared.pair.PairSide.{PairSide}
use Rattle.walk_up_to.specs.Marks.{IsClosedAt, IsMade, IsMore}
use Rattle.walk_up_to.proofs.saturation.add_sides.Given as goal

-- if no term was added, the sets so far add none
abbrev pub invariant-loop-pair_side : goal.invariant-loop-pair_side
invariant-loop-pair_side l = record {
  made : IsMade l.listed.pairs l.initial.marked.marks l.marked.marks;
  closed : l.grew ≡ false → (j : ℕ) → j < l.pair_side-index → (s : PairSide) → slice_get l.pair_sides j ≡ Some s → IsClosedAt l.listed.pairs l.marked.marks s;
  more : IsMore l.initial.marked l.marked l.grew;
}
