use Rattle.std.proofs.Common.{◌≡◌, ◌++◌, take}
use Rattle.std.specs.List.{flat_map}
use Rattle.kat_model.specs.Stores.{modulus}
use Rattle.abstraction.specs.Facts.{three_way_fact}
use Rattle.abstraction.proofs.hypotheses.add_three_way_facts_of.Given as goal

-- the facts of the comparisons so far
abbrev pub invariant-loop-second : goal.invariant-loop-second
invariant-loop-second l = l.hyps.items ≡ l.initial.hyps.items ++ flat_map (λ b. flat_map (three_way_fact (modulus l.width) l.first b) l.rows) (take l.second-index l.rows)
