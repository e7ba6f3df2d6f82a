use Rattle.std.proofs.Common.{◌≡◌, ◌<◌, ℕ, false, Some, slice_get, []}
use Rattle.std.specs.Prelude.{slice_index_or}
use Rattle.kat_model.specs.Members.{Has}
use Rattle.walk_up_to.specs.declared.pair.PairSide.{PairSide}
use Rattle.walk_up_to.specs.Marks.{IsClosedAt, IsMade, IsMore}
use Rattle.walk_up_to.proofs.saturation.add_under_first.Given as goal

-- if no term was added, the sets under the terms so far add none
abbrev pub invariant-loop-index : goal.invariant-loop-index
invariant-loop-index l = record {
  made : IsMade l.listed.pairs l.initial.marked.marks l.marked.marks;
  closed : l.grew ≡ false → (i : ℕ) → i < l.index → (t : ℕ) → slice_get l.initial.marked.terms i ≡ Some t → (s : PairSide) → Has (slice_index_or l.listed.index.under t []) s → IsClosedAt l.listed.pairs l.marked.marks s;
  more : IsMore l.initial.marked l.marked l.grew;
}
