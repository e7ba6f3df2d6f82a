use Rattle.std.proofs.Common.{◌≡◌, map, take}
use Rattle.kat_model.specs.Trees.{kat_tree}
use Rattle.goal_forms.proofs.elimination.copies.Given as goal

-- the trees of the terms so far
abbrev pub invariant-loop-term : goal.invariant-loop-term
invariant-loop-term l = map kat_tree l.list.items ≡ map kat_tree (take l.term-index l.terms)
