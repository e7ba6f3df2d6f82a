use Rattle.std.proofs.Common.{◌≡◌, ◌+◌, ◌≤◌, length}
use Rattle.line_format.specs.Lines.{parts_of}
use Rattle.line_format.specs.NumberedLines.{lines_from}
use Rattle.line_format.proofs.numbered.read_lines.Given as goal

-- after the lines so far, the remaining lines give the answer of all lines
abbrev pub invariant-loop-line : goal.invariant-loop-line
invariant-loop-line g l = record {
  same : lines_from g.T.LineDraft.format (g.T.LineDraft.parts l.draft) l.number (parts_of l.rest) ≡ lines_from g.T.LineDraft.format (g.T.LineDraft.parts l.fn.draft) l.fn.first (parts_of l.bytes);
  draft : g.T.LineDraft.Keeps l.draft;
  few : l.number + length l.rest ≤ l.fn.first + length l.bytes;
}

abbrev pub decreases-loop-line : goal.decreases-loop-line
decreases-loop-line g l = length l.rest
