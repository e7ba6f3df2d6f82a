use Rattle.std.proofs.Common.{◌≡◌, map, take}
use Rattle.flow_model.specs.declared.block_match.Equation.{Equation}
use Rattle.flow_matches.proofs.interface.assignment.Given as goal

-- the variables so far
abbrev pub invariant-loop-equation : goal.invariant-loop-equation
invariant-loop-equation l = l.targets.items ≡ map (λ (e : Equation). e.variable) (take l.equation-index l.equations)
