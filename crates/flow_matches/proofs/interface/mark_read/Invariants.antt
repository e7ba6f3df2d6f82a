use Rattle.std.proofs.Common.{map, take}
use Rattle.flow_model.specs.Matches.{equation_of}
use Rattle.flow_pieces.specs.Matches.{equations_read}
use Rattle.flow_matches.specs.Working.SideViews.{HasMarks}
use Rattle.flow_matches.proofs.interface.mark_read.Given as goal

-- the marks of the equations so far
abbrev pub invariant-loop-equation : goal.invariant-loop-equation
invariant-loop-equation l = HasMarks (equations_read (map equation_of (take l.equation-index l.equations))) l.initial.marks.items l.marks.items
