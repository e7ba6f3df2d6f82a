-- The reply of `explain` satisfies the statement on the evidence.
use Rattle.std.proofs.Common.{◌≡◌, ◌⊎◌, ◌<◌, ℕ, List, Some, Ok, inl, inr, sym, ap, ◌∙◌, arith}
use Rattle.std.proofs.lemmas.Option.{same_Some}
use Rattle.certificate.specs.Faults.{line_fault}
use Rattle.certificate.specs.declared.evidence.EvidenceFault.{EvidenceFault}
use Rattle.certificate.specs.declared.evidence.Evidence.{Evidence}
use Rattle.certificate.specs.declared.evidence.Evidence.TheVariants.{Equal, Different}
use Rattle.cert_checker.specs.Answers.{Shows}
use Rattle.while_lang.specs.Files.{FileParts}
use Rattle.problem_file.specs.Reads.{Reads}
use Rattle.abstraction.specs.Abstracts.{AbstractParts, abstract_of}
use Rattle.kat_report.specs.Refusals.{evidence_fault_line}
use Rattle.tool_inputs.specs.EvidenceBytes.{Spells, IsNoEvidence}
use Rattle.tool_inputs.specs.TextProblem.{HasNoProblem}
use Rattle.tool_inputs.specs.Steps.{AbstractsFile, PosesFor}
use Rattle.tool_explain.specs.Used.{with_marked}
use Rattle.tool_explain.specs.Explain.{IsExplaining, IsDoubting, IsExplained, ExplainsBytes, ExplainsTexts, ExplainHeadline, ExplainReply}
use Rattle.tool_inputs.proofs.Steps.{OneStatus, reads_denoted, reads_once, abstracts_as, abstracts_once, abstracts_small, abstracted_none, reads_spelled, reads_no_evidence, reads_evidence_once, small_status}
use Rattle.tool_inputs.proofs.FileReplies.{HasOneReply}
use Rattle.tool_explain.specs.Working.ShownTexts.{IsShown, shown_text}
use Rattle.tool_inputs.proofs.Ways.{Ways, at_zero, at_two, at_three}
use Rattle.cert_checker.proofs.OneAnswer.{shown_so}

-- bytes have only one first fault, so the printed line is that of the fault
fault_printed : (bytes output : List ℕ) (fault : EvidenceFault) → line_fault bytes ≡ Some fault → IsNoEvidence bytes output → output ≡ evidence_fault_line fault
fault_printed bytes output fault first none = none.printed ∙ ap evidence_fault_line (same_Some none.fault fault (sym none.first ∙ first))

-- ---- the reply to bytes

-- the possible statuses, each with its cause
abbrev BytesWays : FileParts → AbstractParts → List ℕ → ℕ → List ℕ → Type 0
BytesWays f a bytes status output =
    Ways status ((e : Evidence) × Spells bytes e × IsExplaining f a e status output) ⊥ (IsNoEvidence bytes output) ((e : Evidence) × Spells bytes e × IsDoubting a.problem e status output) ⊥

module _ (f : FileParts) (a : AbstractParts) (bytes : List ℕ) (status : ℕ) (output : List ℕ) where
  bytes_ways : ExplainsBytes f a bytes status output → BytesWays f a bytes status output
  bytes_ways (inl r) = inr (inr (inl r))
  bytes_ways (inr (e, s, inl x)) = inl (x.has_status, (e, s, x))
  bytes_ways (inr (e, s, inr x)) = inr (inr (inr (inl (x.has_status, (e, s, x)))))

  shown_reply : (e : Evidence) → Shows a.problem e → IsExplained f a e status output → IsExplaining f a e status output
  shown_reply e shows (inl x) = x
  shown_reply e shows (inr x) = absurd (x.fails shows)

  doubted_status : (e : Evidence) → (Shows a.problem e → ⊥) → IsExplained f a e status output → status ≡ 3
  doubted_status e fails (inl x) = absurd (fails x.shows)
  doubted_status e fails (inr x) = x.has_status

  one_of : BytesWays f a bytes status output → (status ≡ 0) ⊎ ((status ≡ 2) ⊎ (status ≡ 3))
  one_of (inl h) = inl h.0
  one_of (inr (inl h)) = absurd h.1
  one_of (inr (inr (inl h))) = inr (inl h.0)
  one_of (inr (inr (inr (inl h)))) = inr (inr h.0)
  one_of (inr (inr (inr (inr h)))) = absurd h.1

  pub explained_headline : ExplainsBytes f a bytes status output → ExplainHeadline bytes f a status output
  explained_headline r =
      let ways : BytesWays f a bytes status output = bytes_ways r in
      let shown = at_zero status _ _ _ _ _ ways in
      let faulty = at_two status _ _ _ _ _ ways in
      let rejected = at_three status _ _ _ _ _ ways in
      let spelled = λ (e : Evidence) (s : Spells bytes e). reads_spelled bytes (IsExplained f a) status output e s r in
      record {
        answers = record {
          answers = one_of ways;
          shown = ((λ e. let h = shown e in (h.0, h.1, h.2.shows)), (λ h. (shown_reply h.0 h.2 (spelled h.0 h.1)).has_status));
          faulty = ((λ e. let h = faulty e in (h.fault, h.first)), (λ h. reads_no_evidence bytes (IsExplained f a) status output h.0 h.1 r));
          rejected = ((λ e. let h = rejected e in (h.0, h.1, h.2.fails)), (λ h. doubted_status h.0 h.2 (spelled h.0 h.1)));
        };
        difference = λ x s refutes. (shown_so a.problem (Different x) refutes, (shown_reply (Different x) refutes (spelled (Different x) s)).explains);
        equality = λ c s accepted. let x = (shown_reply (Equal c) accepted (spelled (Equal c) s)).explains in (shown_so a.problem (Equal c) accepted, (x.used, shown_so (with_marked a.problem x.used) (Equal c) x.alone, x.printed));
        faulty_output = λ fault first. fault_printed bytes output fault first (faulty (reads_no_evidence bytes (IsExplained f a) status output fault first r));
        rejected_output = λ e. let h = rejected e in (h.0, h.2.reason, h.1, h.2.first, h.2.printed);
      }

explained_once : (f : FileParts) (a : AbstractParts) (e : Evidence) → OneStatus (IsExplained f a e)
explained_once f a e s t o p (inl x) (inl y) = x.has_status ∙ sym y.has_status
explained_once f a e s t o p (inl x) (inr y) = absurd (y.fails x.shows)
explained_once f a e s t o p (inr x) (inl y) = absurd (x.fails y.shows)
explained_once f a e s t o p (inr x) (inr y) = x.has_status ∙ sym y.has_status

bytes_once : (f : FileParts) (a : AbstractParts) (bytes : List ℕ) → OneStatus (ExplainsBytes f a bytes)
bytes_once f a bytes = reads_evidence_once bytes (IsExplained f a) (explained_once f a)

small : (f : FileParts) (a : AbstractParts) (bytes : List ℕ) (status : ℕ) (output : List ℕ) → ExplainsBytes f a bytes status output → status < 4
small f a bytes status output r = below (explained_headline f a bytes status output r).answers.answers
  where
    below : (status ≡ 0) ⊎ ((status ≡ 2) ⊎ (status ≡ 3)) → status < 4
    below h = grind (arith, h)

-- ---- what the reply says

text_headline : (text bytes : List ℕ) (status : ℕ) (output : List ℕ) (f : FileParts) (a : AbstractParts) → Reads text f → abstract_of f ≡ Ok a → ExplainsTexts text bytes status output → ExplainHeadline bytes f a status output
text_headline text bytes status output f a reads is r =
    explained_headline f a bytes status output
    (abstracts_as f (λ b. ExplainsBytes f b bytes) status output a is (reads_denoted text (λ g. AbstractsFile g (λ b. ExplainsBytes g b bytes)) status output f reads r))

pub explain_reply : (text bytes : List ℕ) (status : ℕ) (output : List ℕ) → PosesFor (HasNoProblem text) (IsShown text) (λ s. ExplainsBytes s.file s.shown bytes) status output → ExplainReply text bytes status output
explain_reply text bytes status output posed =
    let r : ExplainsTexts text bytes status output = shown_text text (λ f a. ExplainsBytes f a bytes) status output posed in
    record {
      replies = r;
      headline = λ f a reads is. text_headline text bytes status output f a reads is r;
      declined = λ line none. abstracted_none text (λ f a. ExplainsBytes f a bytes) status output line none r;
    }

pub explain_one : (text bytes : List ℕ) → HasOneReply (ExplainReply text bytes) ⊥
explain_one text bytes = record {
  small = λ status output r. inl (text_small status output r.replies);
  once = λ a b o p x y. reads_once text (λ f. AbstractsFile f (λ c. ExplainsBytes f c bytes)) (λ f. abstracts_once f (λ c. ExplainsBytes f c bytes) (λ c. bytes_once f c bytes)) a b o p x.replies y.replies;
}
  where
    text_small : (status : ℕ) (output : List ℕ) → ExplainsTexts text bytes status output → status < 4
    text_small status output (inl r) = small_status status (inr (inr (inl r.0)))
    text_small status output (inr (f, reads, r)) = abstracts_small f (λ c. ExplainsBytes f c bytes) (λ c. small f c bytes) status output r
