-- The printed line of bytes that are not the text of evidence.
use Rattle.std.proofs.Common.{◌≡◌, ℕ, List, Some, sym, ap, ◌∙◌}
use Rattle.std.proofs.lemmas.Option.{same_Some}
use Rattle.certificate.specs.declared.evidence.EvidenceFault.{EvidenceFault}
use Rattle.certificate.specs.Faults.{line_fault}
use Rattle.kat_report.specs.Refusals.{evidence_fault_line}
use Rattle.tool_inputs.specs.EvidenceBytes.{IsNoEvidence}

-- bytes have only one first fault, so the printed line is that of the fault
pub fault_printed : (bytes output : List ℕ) (fault : EvidenceFault) → line_fault bytes ≡ Some fault → IsNoEvidence bytes output → output ≡ evidence_fault_line fault
fault_printed bytes output fault first none = none.printed ∙ ap evidence_fault_line (same_Some none.fault fault (sym none.first ∙ first))
