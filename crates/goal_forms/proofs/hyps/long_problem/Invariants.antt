use Rattle.std.proofs.Common.{◌≡◌, map, drop, ◌++◌}
use Rattle.std.specs.List.{filter}
use Rattle.kat_model.specs.Trees.{kat_tree}
use Rattle.kat_model.specs.Degrees.{is_long}
use Rattle.goal_forms.proofs.hyps.long_problem.Given as goal

-- the long hypotheses so far, and those among the rest
abbrev pub invariant-loop-hyp : goal.invariant-loop-hyp
invariant-loop-hyp l = map kat_tree l.longs.items ++ filter is_long (map kat_tree (drop l.hyp-index l.hyp-items)) ≡ filter is_long (map kat_tree l.hyp-items)
