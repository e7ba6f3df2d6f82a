use Rattle.std.proofs.Common.{◌≡◌, drop}
use Rattle.flow_syntax.specs.Rules.{parts_of_rules, chosen_from, chosen}
use Rattle.flow_syntax.proofs.reading.chosen.Given as goal

abbrev pub invariant-loop-k : goal.invariant-loop-k
invariant-loop-k l =
    chosen_from (parts_of_rules l.rules) l.phrase (drop l.at l.marks) l.k (parts_of_rules (drop l.k l.rules))
    ≡ chosen (parts_of_rules l.rules) l.phrase (drop l.at l.marks)
