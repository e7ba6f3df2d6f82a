use Rattle.std.proofs.Common.{◌+◌, arith, length-drop}
use Rattle.line_format.proofs.Splits.{line_cut, line_none}
use Rattle.line_format.proofs.lines.first_line.Goals as goal

pub returns-in-None-clause-none : goal.returns-in-None-clause-none
returns-in-None-clause-none c = line_none c.args.bytes.now c.in-None.ensures

pub returns-in-Some-clause-line : goal.returns-in-Some-clause-line
returns-in-Some-clause-line c = line_cut c.args.bytes.now c.in-Some.i _ c.in-Some.ensures (omega (arith, length-drop (c.in-Some.i + 1) c.args.bytes.now))
