use Rattle.std.proofs.Common.{◌≡◌, min, take}
use Rattle.flow_syntax.specs.Sizes.{total, equation_nodes}
use Rattle.flow_syntax.specs.SyntaxViews.{equations_syntax}
use Rattle.flow_syntax.specs.declared.node_counts.TheConstants.{MOST}
use Rattle.flow_syntax.proofs.node_counts.equations_nodes.Given as goal

-- the last members
abbrev pub invariant-loop-equation : goal.invariant-loop-equation
invariant-loop-equation l = l.nodes ≡ min (total equation_nodes (equations_syntax (take l.equation-index l.equations))) MOST
