use Rattle.std.proofs.Common.{◌≡◌, ◌++◌, take}
use Rattle.std.specs.List.{flat_map}
use Rattle.kat_model.specs.Stores.{modulus}
use Rattle.abstraction.specs.Facts.{three_way_fact}
use Rattle.abstraction.proofs.hypotheses.add_three_way_facts_of_pair.Given as goal

-- the facts of the comparisons so far
abbrev pub invariant-loop-third : goal.invariant-loop-third
invariant-loop-third l = l.hyps.items ≡ l.initial.hyps.items ++ flat_map (three_way_fact (modulus l.width) l.first l.second) (take l.third-index l.rows)
