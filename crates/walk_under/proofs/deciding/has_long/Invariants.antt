use Rattle.std.proofs.Common.{◌≡◌, map, drop}
use Rattle.std.specs.List.{filter}
use Rattle.kat_model.specs.Trees.{kat_tree}
use Rattle.kat_model.specs.Degrees.{is_long}
use Rattle.walk_under.proofs.deciding.has_long.Given as goal

-- no hypothesis so far is long
abbrev pub invariant-loop-hyp : goal.invariant-loop-hyp
invariant-loop-hyp l = filter is_long (map kat_tree (drop l.hyp-index l.hyp-items)) ≡ filter is_long (map kat_tree l.hyp-items)
