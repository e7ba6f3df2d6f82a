use Rattle.std.proofs.Common.{◌≡◌, true, ◌++◌, filter, map, take}
use Rattle.flow_model.specs.Polish.{expr_of, values_of}
use Rattle.flow_model.specs.WholeMatches.{are_whole_equations}
use Rattle.flow_model.specs.declared.block_match.Equation.{Equation}
use Rattle.flow_pieces.specs.PieceGraphs.{has_block}
use Rattle.flow_matches.specs.Working.WholeSides.{AddsWholeExprs}
use Rattle.flow_matches.proofs.interface.push_live_expressions.Given as goal

-- the expressions so far
abbrev pub invariant-loop-equation : goal.invariant-loop-equation
invariant-loop-equation l = record {
  trees : values_of l.values.items ≡ values_of l.initial.values.items ++ map (λ (e : Equation). expr_of e.expression.items) (filter (λ (e : Equation). has_block l.live e.variable) (take l.equation-index l.equations));
  whole : are_whole_equations l.equations ≡ true → AddsWholeExprs l.initial.values l.values;
}
