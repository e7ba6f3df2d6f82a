use Rattle.std.proofs.Common.{◌≡◌, ◌+◌, ◌≤◌, length}
use Rattle.line_format.specs.Lines.{parts_of}
use Rattle.piece_evidence.specs.Faults.{read_from, sections_of}
use Rattle.piece_evidence.specs.Working.Drafts.{draft_read, IsAt}
use Rattle.piece_evidence.proofs.reading.read_sections.Given as goal

-- after the lines so far, what is left gives the answer of all bytes
abbrev pub invariant-loop-line : goal.invariant-loop-line
invariant-loop-line l = record {
  read : read_from (draft_read l.draft) l.number (parts_of l.rest) ≡ sections_of l.bytes;
  at : IsAt l.draft l.rest;
  few : l.number + length l.rest ≤ length l.bytes + 1;
}

abbrev pub decreases-loop-line : goal.decreases-loop-line
decreases-loop-line l = length l.rest
