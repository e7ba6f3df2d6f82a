-- Faults of lines are faults of the bytes.
use Rattle.std.proofs.Common.{◌≡◌, ℕ, ◌+◌, ◌==◌, List, ◌∷◌, Result, Err, sym, ap, ◌∙◌}
use Rattle.line_format.specs.Lines.{parts_of}
use Rattle.line_format.proofs.Splits.{split_some}
use Rattle.piece_evidence.specs.Sections.{SectionParts}
use Rattle.piece_evidence.specs.Faults.{SectionsRead, with_line, and_then, read_from}
use Rattle.piece_evidence.specs.Readings.{Gives}
use Rattle.piece_evidence.specs.declared.fault.SectionFault.{SectionFault}
use Rattle.piece_evidence.specs.declared.fault.SectionFault.TheVariants.{NoMemory, Header, Line, NumberTooWide, Truncated}

module _ (r : SectionsRead) (n : ℕ) (bytes line after : List ℕ) (cut : parts_of bytes ≡ line ∷ parts_of after) where
  -- the answer after a complete line
  pub after_line : read_from r n (parts_of bytes) ≡ and_then (with_line r n line) (λ more. read_from more (n + 1) (parts_of after))
  after_line =
      let some = split_some (λ b. b == 10) after in
      ap (read_from r n) (cut ∙ ap (λ ps. line ∷ ps) some.2)
      ∙ ap (λ ps. and_then (with_line r n line) (λ more. read_from more (n + 1) ps)) (sym some.2)

  line_fault : (fault : SectionFault) → with_line r n line ≡ Err fault → read_from r n (parts_of bytes) ≡ Err fault
  line_fault fault e = after_line ∙ ap (λ (x : Result SectionsRead SectionFault). and_then x (λ more. read_from more (n + 1) (parts_of after))) e

  -- the answer is the fault of a line, unless memory ran out
  pub fault_given : {X Y : Type 0} (answer : Result (List SectionParts) SectionFault) (fault : SectionFault) (view : X → SectionsRead) (all : Y → List SectionParts) → read_from r n (parts_of bytes) ≡ answer → Gives (with_line r n line) (Err fault) view → Gives answer (Err fault) all
  fault_given answer NoMemory view all e h = tt
  fault_given answer Header view all e h = sym e ∙ line_fault Header h
  fault_given answer (Line k) view all e h = sym e ∙ line_fault (Line k) h
  fault_given answer (NumberTooWide k) view all e h = sym e ∙ line_fault (NumberTooWide k) h
  fault_given answer Truncated view all e h = sym e ∙ line_fault Truncated h
