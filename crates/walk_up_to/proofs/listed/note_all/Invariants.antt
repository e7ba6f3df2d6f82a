use Rattle.std.proofs.Common.{◌≡◌, ◌<◌, ℕ, Some, slice_get, get_or, true, false}
use Rattle.walk_up_to.specs.Marks.{Stays}
use Rattle.walk_up_to.proofs.listed.note_all.Given as goal

-- the terms so far are marked
abbrev pub invariant-loop-term : goal.invariant-loop-term
invariant-loop-term l = record {
  kept : Stays l.initial.marks.items l.marks.items;
  noted : (i : ℕ) → i < l.term-index → (t : ℕ) → slice_get l.terms i ≡ Some t → get_or l.marks.items t false ≡ true;
}
