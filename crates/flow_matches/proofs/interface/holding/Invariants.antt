use Rattle.std.proofs.Common.{◌≡◌, true, flat_map, map, take}
use Rattle.std.specs.List.{list_all}
use Rattle.flow_model.specs.Polish.{cond_part}
use Rattle.flow_model.specs.Matches.{equation_of}
use Rattle.flow_model.specs.WholeGraphs.{has_whole_sides}
use Rattle.flow_model.specs.WholeMatches.{are_whole_equations}
use Rattle.flow_model.specs.declared.block_match.Equation.{Equation}
use Rattle.flow_matches.specs.Working.SideViews.{equation_parts}
use Rattle.flow_matches.proofs.interface.holding.Given as goal

-- the nodes of the equations so far
abbrev pub invariant-loop-equation : goal.invariant-loop-equation
invariant-loop-equation l = record {
  parts : map cond_part l.nodes.items ≡ flat_map (λ (e : Equation). equation_parts (equation_of e)) (take l.equation-index l.equations);
  whole : are_whole_equations l.equations ≡ true → list_all has_whole_sides l.nodes.items ≡ true;
}
