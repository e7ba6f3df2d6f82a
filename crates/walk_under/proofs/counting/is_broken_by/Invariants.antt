use Rattle.std.proofs.Common.{◌≡◌, false}
use Rattle.kat_model.specs.Trees.{kat_tree}
use Rattle.kat_model.specs.Steps.{out}
use Rattle.walk_under.proofs.BrokenStrings.{IsRest}
use Rattle.walk_under.proofs.counting.is_broken_by.Given as goal

-- the string breaks the hypothesis if and only if the rest of it does; the first atom of the rest does not
abbrev pub invariant-loop-m : goal.invariant-loop-m
invariant-loop-m l = record {
  rest : IsRest (kat_tree l.hyp) l.string.first l.m-items l.from l.m-index;
  refused : out (kat_tree l.hyp) l.from ≡ false;
}
