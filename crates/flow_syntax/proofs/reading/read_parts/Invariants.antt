use Rattle.std.proofs.Common.{drop, reverse}
use Rattle.flow_syntax.specs.Rules.{parts_of_rules}
use Rattle.flow_syntax.specs.Moves.{state}
use Rattle.flow_syntax.specs.Derivations.{LeadsTo, beginning}
use Rattle.flow_syntax.specs.Weights.{budget}
use Rattle.flow_syntax.proofs.reading.read_parts.Given as goal

-- the steps lead to a state with the parts of the stack before the tokens from `at` on
abbrev pub invariant-parts : goal.invariant-parts
invariant-parts l =
    LeadsTo (parts_of_rules l.rules) l.end (beginning l.phrase l.marks) l.steps.items (state l.depth (reverse l.stack.items) (drop l.at l.marks))

abbrev pub decreases-parts : goal.decreases-parts
decreases-parts l = budget l.weights (state l.depth (reverse l.stack.items) (drop l.at l.marks))
