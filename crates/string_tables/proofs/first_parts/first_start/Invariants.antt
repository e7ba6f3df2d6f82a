use Rattle.std.proofs.Common.{◌-◌}
use Rattle.kat_model.specs.Trees.{kat_tree}
use Rattle.string_tables.specs.Parts.{AcceptsNoneBefore, HasPart}
use Rattle.string_tables.proofs.first_parts.first_start.Given as goal

-- no part begins before `low`, and some part begins before `high`
abbrev pub invariant-halves : goal.invariant-halves
invariant-halves l = record {
  none : AcceptsNoneBefore l.string (kat_tree l.term) l.low;
  some : HasPart l.string (kat_tree l.term) l.low l.high;
}

abbrev pub decreases-halves : goal.decreases-halves
decreases-halves l = l.high - l.low
