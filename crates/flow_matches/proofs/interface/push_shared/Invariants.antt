use Rattle.std.proofs.Common.{◌≡◌, ◌++◌, filter, map, take}
use Rattle.flow_model.specs.Expressions.{variable}
use Rattle.flow_model.specs.Polish.{values_of}
use Rattle.flow_model.specs.Matches.{match_of}
use Rattle.flow_pieces.specs.Matches.{is_shared}
use Rattle.flow_matches.specs.Working.WholeSides.{AddsWholeExprs}
use Rattle.flow_matches.proofs.interface.push_shared.Given as goal

-- the variables so far
abbrev pub invariant-loop-number : goal.invariant-loop-number
invariant-loop-number l = record {
  trees : values_of l.values.items ≡ values_of l.initial.values.items ++ map variable (filter (is_shared (match_of l.own)) (take l.number-index l.exit.live.items));
  whole : AddsWholeExprs l.initial.values l.values;
}
