use Rattle.std.proofs.Common.{◌≡◌, map, take}
use Rattle.kat_model.specs.Trees.{kat_tree}
use Rattle.abstraction.specs.Derived.{stated_from}
use Rattle.abstraction.proofs.hypotheses.stated_hyps.Given as goal

-- the terms so far
abbrev pub invariant-loop-k : goal.invariant-loop-k
invariant-loop-k l = l.hyps.items ≡ stated_from 0 (map kat_tree (take l.k l.terms))
