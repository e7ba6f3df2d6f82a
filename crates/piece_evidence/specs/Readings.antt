-- The answers of the reader. Memory may run out.
use Rattle.std.specs.Prelude.{◌≡◌, Result, Ok, Err}
use Rattle.piece_evidence.specs.declared.fault.SectionFault.{SectionFault}
use Rattle.piece_evidence.specs.declared.fault.SectionFault.TheVariants.{NoMemory}

-- the answer is this view of the result, or its fault, unless memory ran out
abbrev pub Gives : {X Y : Type 0} → Result Y SectionFault → Result X SectionFault → (X → Y) → Type 0
Gives answer (Ok x) view = answer ≡ Ok (view x)
Gives answer (Err NoMemory) view = Unit {0}
Gives answer (Err fault) view = answer ≡ Err fault
