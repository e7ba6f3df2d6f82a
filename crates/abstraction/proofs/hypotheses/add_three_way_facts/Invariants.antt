use Rattle.std.proofs.Common.{◌≡◌, ◌++◌, take}
use Rattle.std.specs.List.{flat_map}
use Rattle.kat_model.specs.Stores.{modulus}
use Rattle.abstraction.specs.Facts.{three_way_fact}
use Rattle.abstraction.specs.Derived.{of_pairs}
use Rattle.abstraction.proofs.hypotheses.add_three_way_facts.Given as goal

-- the facts of the comparisons so far
abbrev pub invariant-loop-first : goal.invariant-loop-first
invariant-loop-first l = l.hyps.items ≡ l.initial.hyps.items ++ flat_map (λ a. of_pairs (three_way_fact (modulus l.width) a) l.rows l.rows) (take l.first-index l.rows)
