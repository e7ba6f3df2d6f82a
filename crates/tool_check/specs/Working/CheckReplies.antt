-- The reply of `check` satisfies the statement on the evidence.
use Rattle.std.proofs.Common.{◌≡◌, ◌⊎◌, ◌<◌, ℕ, List, Ok, inl, inr, refl, sym, ◌∙◌, arith}
use Rattle.kat_model.specs.Problems.{ProblemParts}
use Rattle.kat_model.specs.Relations.{Same}
use Rattle.kat_model.specs.Strings.{GuardedString}
use Rattle.string_tables.specs.Tables.{Refutes}
use Rattle.certificate.specs.Certs.{CertParts}
use Rattle.certificate.specs.Accepted.{IsAccepted}
use Rattle.certificate.specs.declared.evidence.Evidence.{Evidence}
use Rattle.certificate.specs.declared.evidence.Evidence.TheVariants.{Equal, Different}
use Rattle.cert_checker.specs.Answers.{Shows}
use Rattle.while_lang.specs.Files.{FileParts}
use Rattle.problem_file.specs.Reads.{Reads}
use Rattle.while_lang.specs.Concrete.{IsConcrete, Agrees}
use Rattle.abstraction.specs.Abstracts.{AbstractParts, abstract_of}
use Rattle.abstraction.specs.Readings.{Reading, KeepsStated, GoalHoldsBy}
use Rattle.abstraction.proofs.ReadingAgreement.{readings_agree}
use Rattle.kat_report.specs.Acceptances.{accepted_line}
use Rattle.tool_inputs.specs.FileProblem.{Poses}
use Rattle.tool_inputs.specs.TextProblem.{HasNoProblem}
use Rattle.tool_inputs.specs.EvidenceBytes.{Spells, IsNoEvidence}
use Rattle.tool_inputs.specs.Steps.{PosesQuestion, PosesFor}
use Rattle.tool_check.specs.Check.{IsChecked, IsRejecting, ChecksBytes, ChecksTexts, CheckHeadline, CheckReply}
use Rattle.tool_inputs.proofs.Steps.{OneStatus, reads_denoted, text_poses, abstracted_none, text_small, text_once, reads_spelled, reads_no_evidence, reads_evidence_once}
use Rattle.tool_inputs.proofs.TextReplies.{posed_text}
use Rattle.tool_inputs.proofs.FileReplies.{HasOneReply}
use Rattle.tool_inputs.proofs.StoreSentences.{posed_agrees}
use Rattle.tool_inputs.proofs.Ranges.{numbers_in_range}
use Rattle.tool_check.specs.Working.FaultLines.{fault_printed}
use Rattle.tool_inputs.proofs.Ways.{Ways, at_zero, at_one, at_two, at_three}

-- ---- the reply to bytes

-- the possible statuses, each with its cause
abbrev BytesWays : ProblemParts → List ℕ → ℕ → List ℕ → Type 0
BytesWays q bytes status output =
    Ways status
    ((c : CertParts) × Spells bytes (Equal c) × IsAccepted q c × Same q)
    ((x : GuardedString) × Spells bytes (Different x) × Refutes q x × (Same q → ⊥))
    (IsNoEvidence bytes output)
    ((e : Evidence) × Spells bytes e × IsRejecting q e status output)
    ⊥

module _ (q : ProblemParts) (bytes : List ℕ) (status : ℕ) (output : List ℕ) where
  bytes_ways : ChecksBytes q bytes status output → BytesWays q bytes status output
  bytes_ways (inl r) = inr (inr (inl r))
  bytes_ways (inr (Equal c, s, inl a)) = inl (a.has_status, (c, s, a.shows, a.denotes))
  bytes_ways (inr (Different x, s, inl a)) = inr (inl (a.has_status, (x, s, a.shows, a.denotes)))
  bytes_ways (inr (e, s, inr r)) = inr (inr (inr (inl (r.has_status, (e, s, r)))))

  accepted_status : (c : CertParts) → IsAccepted q c → IsChecked q (Equal c) status output → status ≡ 0
  accepted_status c shows (inl a) = a.has_status
  accepted_status c shows (inr r) = absurd (r.fails shows)

  refuting_status : (x : GuardedString) → Refutes q x → IsChecked q (Different x) status output → status ≡ 1
  refuting_status x shows (inl a) = a.has_status
  refuting_status x shows (inr r) = absurd (r.fails shows)

  rejected_status : (e : Evidence) → (Shows q e → ⊥) → IsChecked q e status output → status ≡ 3
  rejected_status e fails (inl a) = absurd (fails a.shows)
  rejected_status e fails (inr r) = r.has_status

  one_of : BytesWays q bytes status output → (status ≡ 0) ⊎ ((status ≡ 1) ⊎ ((status ≡ 2) ⊎ (status ≡ 3)))
  one_of (inl h) = inl h.0
  one_of (inr (inl h)) = inr (inl h.0)
  one_of (inr (inr (inl h))) = inr (inr (inl h.0))
  one_of (inr (inr (inr (inl h)))) = inr (inr (inr h.0))
  one_of (inr (inr (inr (inr h)))) = absurd h.1

  accepted_printed : (e : Evidence) → Shows q e → IsChecked q e status output → output ≡ accepted_line e
  accepted_printed e shows (inl a) = a.printed
  accepted_printed e shows (inr r) = absurd (r.fails shows)

  pub checked_headline : ChecksBytes q bytes status output → CheckHeadline bytes q status output
  checked_headline r =
      let ways : BytesWays q bytes status output = bytes_ways r in
      let equal = at_zero status _ _ _ _ _ ways in
      let different = at_one status _ _ _ _ _ ways in
      let faulty = at_two status _ _ _ _ _ ways in
      let rejected = at_three status _ _ _ _ _ ways in
      record {
        answers = record {
          answers = one_of ways;
          equal = ((λ e. let h = equal e in (h.0, h.1, h.2)), (λ h. accepted_status h.0 h.2 (reads_spelled bytes (IsChecked q) status output (Equal h.0) h.1 r)));
          different = ((λ e. let h = different e in (h.0, h.1, h.2)), (λ h. refuting_status h.0 h.2 (reads_spelled bytes (IsChecked q) status output (Different h.0) h.1 r)));
          faulty = ((λ e. let h = faulty e in (h.fault, h.first)), (λ h. reads_no_evidence bytes (IsChecked q) status output h.0 h.1 r));
          rejected = ((λ e. let h = rejected e in (h.0, h.1, h.2.fails)), (λ h. rejected_status h.0 h.2 (reads_spelled bytes (IsChecked q) status output h.0 h.1 r)));
        };
        equal = equal;
        different = different;
        accepted_output = λ e s shows. accepted_printed e shows (reads_spelled bytes (IsChecked q) status output e s r);
        faulty_output = λ fault first. fault_printed bytes output fault first (faulty (reads_no_evidence bytes (IsChecked q) status output fault first r));
        rejected_output = λ e. let h = rejected e in (h.0, h.2.reason, h.1, h.2.first, h.2.printed);
      }

pub texts_headline : (text bytes : List ℕ) (status : ℕ) (output : List ℕ) (q : ProblemParts) → Poses text q → ChecksTexts text bytes status output → CheckHeadline bytes q status output
texts_headline text bytes status output q poses r = checked_headline q bytes status output (text_poses text (λ p. ChecksBytes p bytes) status output q poses r)

-- if the status is 0, the goal of a concrete file holds for all its stores
pub texts_stores : (text bytes : List ℕ) (status : ℕ) (output : List ℕ) (f : FileParts) → Reads text f → IsConcrete f → ChecksTexts text bytes status output → status ≡ 0 → Agrees f
texts_stores text bytes status output f reads concrete r zero = stores (reads_denoted text (λ g. PosesQuestion g (λ p. ChecksBytes p bytes)) status output f reads r)
  where
    stores : PosesQuestion f (λ p. ChecksBytes p bytes) status output → Agrees f
    stores (inl refused) = absurd (omega (arith, zero, refused.0))
    stores (inr (a, is, d)) =
        let poses : Poses text a.problem = record { file = f; reads = reads; abstract = a; is_abstract = is; question = refl } in
        posed_agrees text a.problem poses ((checked_headline a.problem bytes status output d).equal zero).3 concrete

-- if the sides of its question are the same, the goal of a file holds for all its stores under every reading that keeps
-- the stated hypotheses
pub same_readings : (text : List ℕ) (f : FileParts) (a : AbstractParts) (r : Reading) → Reads text f → abstract_of f ≡ Ok a → KeepsStated f a r → (Poses text a.problem → Same a.problem) → GoalHoldsBy f a r f.goal
same_readings text f a r reads is stated same =
    readings_agree f a r (numbers_in_range text f reads) is stated (same (record { file = f; reads = reads; abstract = a; is_abstract = is; question = refl }))

-- if the status is 0, the goal of a file holds for all its stores under every reading that keeps the stated hypotheses
pub texts_readings : (text bytes : List ℕ) (status : ℕ) (output : List ℕ) (f : FileParts) (a : AbstractParts) (r : Reading) → Reads text f → abstract_of f ≡ Ok a → KeepsStated f a r
    → ChecksTexts text bytes status output → status ≡ 0 → GoalHoldsBy f a r f.goal
texts_readings text bytes status output f a r reads is stated replies zero =
    same_readings text f a r reads is stated (λ poses. ((texts_headline text bytes status output a.problem poses replies).equal zero).3)

checked_once : (q : ProblemParts) (e : Evidence) → OneStatus (IsChecked q e)
checked_once q e a b o p (inl x) (inl y) = x.has_status ∙ sym y.has_status
checked_once q e a b o p (inl x) (inr y) = absurd (y.fails x.shows)
checked_once q e a b o p (inr x) (inl y) = absurd (x.fails y.shows)
checked_once q e a b o p (inr x) (inr y) = x.has_status ∙ sym y.has_status

pub bytes_once : (q : ProblemParts) (bytes : List ℕ) → OneStatus (ChecksBytes q bytes)
bytes_once q bytes = reads_evidence_once bytes (IsChecked q) (checked_once q)

-- ---- what the reply says

pub check_reply : (text bytes : List ℕ) (status : ℕ) (output : List ℕ) → PosesFor (HasNoProblem text) (Poses text) (λ q. ChecksBytes q bytes) status output → CheckReply text bytes status output
check_reply text bytes status output posed =
    let r : ChecksTexts text bytes status output = posed_text text (λ q. ChecksBytes q bytes) status output posed in
    record {
      replies = r;
      headline = λ q poses. texts_headline text bytes status output q poses r;
      stores = λ f reads concrete zero. texts_stores text bytes status output f reads concrete r zero;
      readings = λ f a reading reads is stated zero. texts_readings text bytes status output f a reading reads is stated r zero;
      declined = λ line none. abstracted_none text (λ f a. ChecksBytes a.problem bytes) status output line none r;
    }

small : (q : ProblemParts) (bytes : List ℕ) (status : ℕ) (output : List ℕ) → ChecksBytes q bytes status output → status < 4
small q bytes status output r = below (checked_headline q bytes status output r).answers.answers
  where
    below : (status ≡ 0) ⊎ ((status ≡ 1) ⊎ ((status ≡ 2) ⊎ (status ≡ 3))) → status < 4
    below h = grind (arith, h)

pub check_one : (text bytes : List ℕ) → HasOneReply (CheckReply text bytes) ⊥
check_one text bytes = record {
  small = λ status output r. inl (text_small text (λ q. ChecksBytes q bytes) (λ q. small q bytes) status output r.replies);
  once = λ a b o p x y. text_once text (λ q. ChecksBytes q bytes) (λ q. bytes_once q bytes) a b o p x.replies y.replies;
}
