-- The lines with the reasons why `outline` refuses a file or notes, or rejects notes.
use Rattle.std.specs.Prelude.{ℕ, List, [], ◌∷◌, ◌++◌, codes}
use Rattle.std.specs.Fmt.{decimal}
use Rattle.outline_rules.specs.declared.fault.NotesFault.{NotesFault}
use Rattle.outline_rules.specs.declared.fault.NotesFault.TheVariants.{NoMemory, Header, Line, NodeOrder, DoubleNode, NumberTooWide, Truncated, Trailing}
use Rattle.outline_rules.specs.declared.answer.NoteReason.{NoteReason}
use Rattle.outline_rules.specs.declared.answer.NoteReason.TheVariants.{Range, Count, Step}

-- the goal is not a triple of a program
abbrev pub not_a_triple_line : List ℕ
not_a_triple_line = codes "refused: NotATriple\n"

-- the hypothesis with this number is not simple
abbrev pub not_simple_line : ℕ → List ℕ
not_simple_line hyp = codes "refused: NotSimple " ++ decimal hyp ++ 10 ∷ []

-- `refused: outline WORD`, and the number of the faulty line, if any; `NoMemory` has no line
abbrev pub notes_fault_line : NotesFault → List ℕ
notes_fault_line NoMemory = []
notes_fault_line Header = codes "refused: outline Header\n"
notes_fault_line (Line n) = codes "refused: outline Line " ++ decimal n ++ 10 ∷ []
notes_fault_line (NodeOrder n) = codes "refused: outline NodeOrder " ++ decimal n ++ 10 ∷ []
notes_fault_line (DoubleNode n) = codes "refused: outline DoubleNode " ++ decimal n ++ 10 ∷ []
notes_fault_line (NumberTooWide n) = codes "refused: outline NumberTooWide " ++ decimal n ++ 10 ∷ []
notes_fault_line Truncated = codes "refused: outline Truncated\n"
notes_fault_line (Trailing n) = codes "refused: outline Trailing " ++ decimal n ++ 10 ∷ []

-- `rejected: outline WORD`, and the number of the node, of the places, or of the target
abbrev pub note_reason_line : NoteReason → List ℕ
note_reason_line (Range n) = codes "rejected: outline Range " ++ decimal n ++ 10 ∷ []
note_reason_line (Count n) = codes "rejected: outline Count " ++ decimal n ++ 10 ∷ []
note_reason_line (Step n) = codes "rejected: outline Step " ++ decimal n ++ 10 ∷ []
