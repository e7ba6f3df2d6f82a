use Rattle.std.proofs.Common.{◌≡◌, ◌++◌, length}
use Rattle.text_parser.specs.TokenParts.{parts_of_tokens}
use Rattle.flow_syntax.specs.Marks.{marks_from, marks_of}
use Rattle.flow_syntax.proofs.marks.marks.Given as goal

-- the marks so far, and those of the tokens that are left
abbrev pub invariant-tokens : goal.invariant-tokens
invariant-tokens l = l.marks.items ++ marks_from l.context (parts_of_tokens l.rest) ≡ marks_of (parts_of_tokens l.fn.toks)

abbrev pub decreases-tokens : goal.decreases-tokens
decreases-tokens l = length l.rest
