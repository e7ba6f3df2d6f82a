use Rattle.std.proofs.Common.{◌≡◌, ◌++◌, map, take}
use Rattle.flow_model.specs.Expressions.{variable}
use Rattle.flow_model.specs.Polish.{values_of}
use Rattle.flow_model.specs.declared.block_match.Equation.{Equation}
use Rattle.flow_matches.specs.Working.WholeSides.{AddsWholeExprs}
use Rattle.flow_matches.proofs.interface.push_variables.Given as goal

-- the variables so far
abbrev pub invariant-loop-equation : goal.invariant-loop-equation
invariant-loop-equation l = record {
  trees : values_of l.values.items ≡ values_of l.initial.values.items ++ map (λ (e : Equation). variable e.variable) (take l.equation-index l.equations);
  whole : AddsWholeExprs l.initial.values l.values;
}
