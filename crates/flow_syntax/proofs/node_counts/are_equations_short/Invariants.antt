use Rattle.std.proofs.Common.{◌≡◌, take}
use Rattle.flow_syntax.specs.Sizes.{all_pass, equation_short}
use Rattle.flow_syntax.specs.SyntaxViews.{equations_syntax}
use Rattle.flow_syntax.proofs.node_counts.are_equations_short.Given as goal

-- the last members
abbrev pub invariant-loop-equation : goal.invariant-loop-equation
invariant-loop-equation l = l.short ≡ all_pass equation_short (equations_syntax (take l.equation-index l.equations))
