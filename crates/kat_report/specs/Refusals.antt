-- The lines with the reasons why a text or evidence is refused.
use Rattle.std.specs.Prelude.{ℕ, List, [], ◌∷◌, ◌++◌, codes, Option, Some, None}
use Rattle.std.specs.Fmt.{decimal}
use Rattle.text_parser.specs.declared.fault.TextFault.{TextFault}
use Rattle.text_parser.specs.declared.fault.TextFault.TheVariants.{NoMemory, TooLong, NotUtf8, BadToken, Syntax, TooDeep, NumberTooWide, UnknownName, DoubleName, Sort, TooLarge, TooMany, NoGoal, TwoGoals}
use Rattle.certificate.specs.declared.evidence.EvidenceFault.{EvidenceFault}
use Rattle.certificate.specs.declared.evidence.EvidenceFault.TheVariants.{NoMemory as NoRoom, Header, Line, NodeOrder, DoubleNode, SetOrder, NumberTooWide as NumeralTooWide, Truncated, Trailing}

abbrev pub fault_word : TextFault → List ℕ
fault_word NoMemory = codes "NoMemory"
fault_word TooLong = codes "TooLong"
fault_word (NotUtf8 at) = codes "NotUtf8"
fault_word (BadToken at) = codes "BadToken"
fault_word (Syntax at) = codes "Syntax"
fault_word (TooDeep at) = codes "TooDeep"
fault_word (NumberTooWide at) = codes "NumberTooWide"
fault_word (UnknownName at) = codes "UnknownName"
fault_word (DoubleName at) = codes "DoubleName"
fault_word (Sort at) = codes "Sort"
fault_word (TooLarge at) = codes "TooLarge"
fault_word (TooMany at) = codes "TooMany"
fault_word NoGoal = codes "NoGoal"
fault_word (TwoGoals at) = codes "TwoGoals"

abbrev pub fault_place : TextFault → Option ℕ
fault_place NoMemory = None
fault_place TooLong = None
fault_place (NotUtf8 at) = Some at
fault_place (BadToken at) = Some at
fault_place (Syntax at) = Some at
fault_place (TooDeep at) = Some at
fault_place (NumberTooWide at) = Some at
fault_place (UnknownName at) = Some at
fault_place (DoubleName at) = Some at
fault_place (Sort at) = Some at
fault_place (TooLarge at) = Some at
fault_place (TooMany at) = Some at
fault_place NoGoal = None
fault_place (TwoGoals at) = Some at

-- a space and the place, if any
abbrev pub place_text : Option ℕ → List ℕ
place_text None = []
place_text (Some at) = 32 ∷ decimal at

-- `refused: WORD`, the place, and a line feed
abbrev pub text_fault_line : TextFault → List ℕ
text_fault_line fault = codes "refused: " ++ fault_word fault ++ place_text (fault_place fault) ++ 10 ∷ []

abbrev pub evidence_word : EvidenceFault → List ℕ
evidence_word NoRoom = codes "NoMemory"
evidence_word Header = codes "Header"
evidence_word (Line n) = codes "Line"
evidence_word (NodeOrder n) = codes "NodeOrder"
evidence_word (DoubleNode n) = codes "DoubleNode"
evidence_word (SetOrder n) = codes "SetOrder"
evidence_word (NumeralTooWide n) = codes "NumberTooWide"
evidence_word Truncated = codes "Truncated"
evidence_word (Trailing n) = codes "Trailing"

-- the number of the faulty line, if any
abbrev pub evidence_place : EvidenceFault → Option ℕ
evidence_place NoRoom = None
evidence_place Header = None
evidence_place (Line n) = Some n
evidence_place (NodeOrder n) = Some n
evidence_place (DoubleNode n) = Some n
evidence_place (SetOrder n) = Some n
evidence_place (NumeralTooWide n) = Some n
evidence_place Truncated = None
evidence_place (Trailing n) = Some n

-- `refused: evidence WORD`, the number of the line, and a line feed
abbrev pub evidence_fault_line : EvidenceFault → List ℕ
evidence_fault_line fault = codes "refused: evidence " ++ evidence_word fault ++ place_text (evidence_place fault) ++ 10 ∷ []
