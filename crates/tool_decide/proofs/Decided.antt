-- The answer of `decide` is evidence, so its text reads back, and it determines the status.
use Rattle.std.proofs.Common.{◌≡◌, ◌<◌, ◌^◌, ℕ, inl, inr, List, length, refl, sym, subst}
use Rattle.kat_model.specs.declared.limits.TheConstants.{MAX_TESTS, MAX_ACTIONS}
use Rattle.kat_model.specs.Problems.{ProblemParts, IsProblem}
use Rattle.kat_model.specs.Strings.{GuardedString}
use Rattle.string_tables.specs.Tables.{Refutes}
use Rattle.certificate.specs.declared.evidence.Evidence.{Evidence}
use Rattle.certificate.specs.declared.evidence.Evidence.TheVariants.{Equal, Different}
use Rattle.certificate.specs.Certs.{CertParts, IsCert}
use Rattle.certificate.specs.Accepted.{IsAccepted}
use Rattle.certificate.specs.Texts.{text_of, IsEvidence}
use Rattle.kat_report.specs.Reports.{json_report}
use Rattle.certificate.proofs.Written.{cert_is_evidence}
use Rattle.certificate.specs.Decisions.{IsDecision}
use Rattle.bisim_worklist.proofs.AnswerCerts.{answer_accepted, answer_few}
use Rattle.kat_axioms.proofs.CompleteChains.{axioms_complete}
use Rattle.tool_inputs.specs.EvidenceBytes.{evidence_status, Spells}
use Rattle.tool_decide.specs.Decide.{IsDecided}
use Rattle.tool_decide.specs.DecideJson.{IsReported}
use Rattle.tool_decide.specs.Working.NarrowCounts.{small, few_tests, few_actions}

module _ (q : ProblemParts) (problem : IsProblem q) where
  accepted_evidence : (c : CertParts) → IsCert c → IsAccepted q c → length c.test_nodes < 2 ^ 64 → length c.term_nodes < 2 ^ 64 → IsEvidence (Equal c)
  accepted_evidence c cert accepted tests terms =
      cert_is_evidence c cert (λ k h. small MAX_TESTS k q.tests few_tests (accepted.tests k h) problem.tests) (λ a h. small MAX_ACTIONS a q.actions few_actions (accepted.actions a h) problem.actions) tests terms

  string_evidence : (x : GuardedString) → Refutes q x → IsEvidence (Different x)
  string_evidence x r m h = small MAX_ACTIONS m.act q.actions few_actions (r.fits.rest m h).0 problem.actions

  module _ (e : Evidence) (d : IsDecision q e) where
    pub equal_evidence : (c : CertParts) → e ≡ Equal c → IsCert c → length c.test_nodes < 2 ^ 64 → length c.term_nodes < 2 ^ 64 → IsEvidence e
    equal_evidence c is cert tests terms = subst IsEvidence (sym is) (accepted_evidence c cert (answer_accepted q c (subst (IsDecision q) is d).1) tests terms)

    pub different_evidence : (x : GuardedString) → e ≡ Different x → IsEvidence e
    different_evidence x is = subst IsEvidence (sym is) (string_evidence x (subst (IsDecision q) is d).1.refutes)

pub decided : (q : ProblemParts) (e : Evidence) (output : List ℕ) → IsProblem q → IsDecision q e → Spells output e → IsDecided q (evidence_status e) output
decided q (Equal c) output problem d s =
    inl (refl, record { same = d.0; chain = (axioms_complete q problem).chains.0 d.0; cert = c; answer = d.1; few = answer_few q c d.1; printed = s })
decided q (Different x) output problem d s = inr (refl, record { differ = d.0; string = x; shortest = d.1; printed = s })

-- the report of a decision is the report of a text that `decide` may print
pub reported : (q : ProblemParts) (e : Evidence) (output : List ℕ) → IsProblem q → IsDecision q e → IsEvidence e → output ≡ json_report q e → IsReported q (evidence_status e) output
reported q e output problem d evidence printed =
    let spells : Spells (text_of e) e = record { evidence = evidence; text = refl } in
    record { text = text_of e; decided = decided q e (text_of e) problem d spells; report = record { evidence = e; spells = spells; printed = printed } }
