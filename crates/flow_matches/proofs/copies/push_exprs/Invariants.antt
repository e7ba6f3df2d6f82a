use Rattle.std.proofs.Common.{◌≡◌, ◌&&◌, ◌++◌, take}
use Rattle.flow_model.specs.Polish.{values_of}
use Rattle.flow_model.specs.WholeGraphs.{are_whole_exprs}
use Rattle.flow_matches.proofs.copies.push_exprs.Given as goal

-- the copies so far
abbrev pub invariant-loop-value : goal.invariant-loop-value
invariant-loop-value l = record {
  trees : values_of l.list.items ≡ values_of l.initial.list.items ++ values_of (take l.value-index l.values);
  whole : are_whole_exprs l.list.items ≡ (are_whole_exprs l.initial.list.items && are_whole_exprs (take l.value-index l.values));
}
