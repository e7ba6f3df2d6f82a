use Rattle.std.proofs.Common.{◌≡◌, ◌++◌, take}
use Rattle.std.specs.List.{flat_map}
use Rattle.kat_model.specs.Stores.{modulus}
use Rattle.abstraction.specs.Working.PairFacts.{pair_fact}
use Rattle.abstraction.proofs.hypotheses.add_pair_facts_of.Given as goal

-- the facts of the comparisons so far
abbrev pub invariant-loop-second : goal.invariant-loop-second
invariant-loop-second l = l.hyps.items ≡ l.initial.hyps.items ++ flat_map (pair_fact l.fact (modulus l.width) l.first) (take l.second-index l.rows)
