use Rattle.std.proofs.Common.{◌≡◌, map, drop}
use Rattle.std.specs.List.{list_any}
use Rattle.kat_model.specs.Trees.{kat_tree}
use Rattle.kat_model.specs.Degrees.{is_short}
use Rattle.goal_forms.proofs.hyps.has_short.Given as goal

-- no hypothesis so far is short
abbrev pub invariant-loop-hyp : goal.invariant-loop-hyp
invariant-loop-hyp l = list_any is_short (map kat_tree (drop l.hyp-index l.hyp-items)) ≡ list_any is_short (map kat_tree l.hyp-items)
