use Rattle.std.proofs.Common.{◌≡◌, ◌++◌, take}
use Rattle.std.specs.List.{flat_map}
use Rattle.kat_model.specs.Stores.{modulus}
use Rattle.abstraction.specs.Working.PairFacts.{pair_fact}
use Rattle.abstraction.proofs.hypotheses.add_pair_facts.Given as goal

-- the facts of the comparisons so far
abbrev pub invariant-loop-first : goal.invariant-loop-first
invariant-loop-first l = l.hyps.items ≡ l.initial.hyps.items ++ flat_map (λ a. flat_map (pair_fact l.fact (modulus l.width) a) l.rows) (take l.first-index l.rows)
