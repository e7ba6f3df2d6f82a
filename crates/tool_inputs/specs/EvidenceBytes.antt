-- Evidence: which bytes are its text.
use Rattle.std.specs.Prelude.{◌≡◌, ℕ, List, Some}
use Rattle.certificate.specs.declared.evidence.Evidence.{Evidence}
use Rattle.certificate.specs.declared.evidence.Evidence.TheVariants.{Equal, Different}
use Rattle.certificate.specs.declared.evidence.EvidenceFault.{EvidenceFault}
use Rattle.certificate.specs.Texts.{text_of, IsEvidence}
use Rattle.certificate.specs.Faults.{line_fault}
use Rattle.kat_report.specs.Refusals.{evidence_fault_line}

-- the status of the answer that this evidence is for
abbrev pub evidence_status : Evidence → ℕ
evidence_status (Equal c) = 0
evidence_status (Different x) = 1

-- the bytes are the text of this evidence
pub record Spells (bytes : List ℕ) (e : Evidence) : Type 0 where
  pub evidence : IsEvidence e
  pub text : bytes ≡ text_of e

-- the bytes are not the text of evidence, and their first fault is printed
pub record IsNoEvidence (bytes output : List ℕ) : Type 0 where
  pub fault : EvidenceFault
  pub first : line_fault bytes ≡ Some fault
  pub printed : output ≡ evidence_fault_line fault
