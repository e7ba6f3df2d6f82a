use Rattle.std.proofs.Common.{◌≡◌, ◌++◌, filter, map, take}
use Rattle.flow_model.specs.Expressions.{variable}
use Rattle.flow_model.specs.Polish.{values_of}
use Rattle.flow_model.specs.declared.block_match.Equation.{Equation}
use Rattle.flow_pieces.specs.PieceGraphs.{has_block}
use Rattle.flow_matches.specs.Working.WholeSides.{AddsWholeExprs}
use Rattle.flow_matches.proofs.interface.push_live_variables.Given as goal

-- the variables so far
abbrev pub invariant-loop-equation : goal.invariant-loop-equation
invariant-loop-equation l = record {
  trees : values_of l.values.items ≡ values_of l.initial.values.items ++ map (λ (e : Equation). variable e.variable) (filter (λ (e : Equation). has_block l.live e.variable) (take l.equation-index l.equations));
  whole : AddsWholeExprs l.initial.values l.values;
}
