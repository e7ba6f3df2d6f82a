use Rattle.std.proofs.Common.{◌≡◌, map, take}
use Rattle.flow_forms.specs.Comparisons.{comparison_tree}
use Rattle.flow_abstraction.proofs.rounds.copies.Given as goal

-- the copies so far
abbrev pub invariant-loop-comparison : goal.invariant-loop-comparison
invariant-loop-comparison l = map comparison_tree l.list.items ≡ map comparison_tree (take l.comparison-index l.comparisons)
