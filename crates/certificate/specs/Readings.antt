-- The answers of the parts of the reader. Memory may run out.
use Rattle.std.specs.Prelude.{◌≡◌, ℕ, List, Some, Ok, Err}
use Rattle.certificate.specs.declared.evidence.Evidence.{Evidence}
use Rattle.certificate.specs.declared.evidence.EvidenceFault.{EvidenceFault}
use Rattle.certificate.specs.declared.evidence.EvidenceFault.TheVariants.{NoMemory}
use Rattle.certificate.specs.Faults.{Answer, line_fault}

-- memory ran out, or this is the first fault of the text
abbrev pub IsFault : List ℕ → EvidenceFault → Type 0
IsFault bytes NoMemory = Unit {0}
IsFault bytes fault = line_fault bytes ≡ Some fault

-- the answer is the evidence, unless memory ran out
abbrev pub Gives : Evidence → Answer → Type 0
Gives e (Ok f) = f ≡ e
Gives e (Err NoMemory) = Unit {0}
Gives e (Err fault) = ⊥
