-- The reply of `replay` satisfies the statement on the evidence.
use Rattle.std.proofs.Common.{◌≡◌, ◌⊎◌, ◌<◌, ℕ, true, false, List, None, Some, inl, inr, ⊎_elim, sym, ◌∙◌, arith}
use Rattle.kat_model.specs.Problems.{ProblemParts}
use Rattle.kat_model.specs.Strings.{GuardedString, IsString}
use Rattle.string_tables.specs.Findings.{IsFinding}
use Rattle.string_tables.specs.declared.finding.Finding.{Finding}
use Rattle.string_tables.specs.declared.finding.Finding.TheVariants.{Refutes, Shape, HypBroken, EndsAgree}
use Rattle.string_tables.proofs.Fitting.{no_misfit_is_string, string_has_no_misfit}
use Rattle.certificate.specs.declared.evidence.Evidence.{Evidence}
use Rattle.certificate.specs.declared.evidence.Evidence.TheVariants.{Equal, Different}
use Rattle.kat_report.specs.Replays.{replay_text, Fits}
use Rattle.tool_inputs.specs.FileProblem.{Poses}
use Rattle.tool_inputs.specs.TextProblem.{HasNoProblem}
use Rattle.tool_inputs.specs.EvidenceBytes.{Spells, IsNoEvidence}
use Rattle.tool_inputs.specs.Steps.{PosesFor}
use Rattle.tool_check.specs.Replay.{IsGiven, IsReplayed, ReplaysBytes, ReplaysTexts, SpellsNoString, IsMisfitLine, ReplayHeadline, ReplayReply}
use Rattle.tool_inputs.proofs.Steps.{OneStatus, text_poses, abstracted_none, text_small, text_once, reads_spelled, reads_no_evidence, reads_evidence_once}
use Rattle.tool_inputs.proofs.TextReplies.{posed_text}
use Rattle.tool_inputs.proofs.FileReplies.{HasOneReply}
use Rattle.tool_check.specs.Working.FaultLines.{fault_printed}
use Rattle.tool_inputs.proofs.Ways.{Ways, at_zero, at_two, at_three}

-- ---- whether a string fits

-- the string fits, and is printed with its finding
abbrev Reported : ProblemParts → GuardedString → List ℕ → Type 0
Reported q x output = IsString q.tests q.actions x × ((f : Finding) × IsFinding q x f × Fits f × (output ≡ replay_text x f))

module _ (q : ProblemParts) (x : GuardedString) (status : ℕ) (output : List ℕ) where
  given_ways : (f : Finding) → IsFinding q x f → IsGiven x f status output → ((status ≡ 0) × Reported q x output) ⊎ ((status ≡ 3) × (IsString q.tests q.actions x → ⊥))
  given_ways (Shape k) found t = inr (t.0, λ is. let none : None ≡ Some k = sym (string_has_no_misfit q x is) ∙ found in absurd cc)
  given_ways (HypBroken h i j) found t = inl (t.0, (no_misfit_is_string q x found.0, (HypBroken h i j, found, tt, t.1)))
  given_ways (Refutes true) found t = inl (t.0, (no_misfit_is_string q x found.0.0, (Refutes true, found, tt, t.1)))
  given_ways (Refutes false) found t = inl (t.0, (no_misfit_is_string q x found.0.0, (Refutes false, found, tt, t.1)))
  given_ways (EndsAgree true) found t = inl (t.0, (no_misfit_is_string q x found.0.0, (EndsAgree true, found, tt, t.1)))
  given_ways (EndsAgree false) found t = inl (t.0, (no_misfit_is_string q x found.0.0, (EndsAgree false, found, tt, t.1)))

  fitting_status : IsString q.tests q.actions x → IsReplayed q (Different x) status output → status ≡ 0
  fitting_status is (f, found, t) = ⊎_elim (λ h. h.0) (λ h. absurd (h.1 is)) (given_ways f found t)

  misfit_status : (IsString q.tests q.actions x → ⊥) → IsReplayed q (Different x) status output → status ≡ 3
  misfit_status none (f, found, t) = ⊎_elim (λ h. absurd (none h.1.0)) (λ h. h.0) (given_ways f found t)

-- ---- the reply to bytes

abbrev BytesWays : ProblemParts → List ℕ → ℕ → List ℕ → Type 0
BytesWays q bytes status output =
    Ways status ((x : GuardedString) × Spells bytes (Different x) × Reported q x output) ⊥ (IsNoEvidence bytes output) (SpellsNoString bytes q) ⊥

module _ (q : ProblemParts) (bytes : List ℕ) (status : ℕ) (output : List ℕ) where
  string_ways : (x : GuardedString) → Spells bytes (Different x) → ((status ≡ 0) × Reported q x output) ⊎ ((status ≡ 3) × (IsString q.tests q.actions x → ⊥)) → BytesWays q bytes status output
  string_ways x s (inl h) = inl (h.0, (x, s, h.1))
  string_ways x s (inr h) = inr (inr (inr (inl (h.0, inl (x, s, h.1)))))

  bytes_ways : ReplaysBytes q bytes status output → BytesWays q bytes status output
  bytes_ways (inl r) = inr (inr (inl r))
  bytes_ways (inr (Equal c, s, t)) = inr (inr (inr (inl (t.0, inr (c, s)))))
  bytes_ways (inr (Different x, s, t)) = string_ways x s (given_ways q x status output t.0 t.1 t.2)

  no_string_status : SpellsNoString bytes q → ReplaysBytes q bytes status output → status ≡ 3
  no_string_status (inl (x, s, none)) r = misfit_status q x status output none (reads_spelled bytes (IsReplayed q) status output (Different x) s r)
  no_string_status (inr (c, s)) r = (reads_spelled bytes (IsReplayed q) status output (Equal c) s r).0

  one_of : BytesWays q bytes status output → (status ≡ 0) ⊎ ((status ≡ 2) ⊎ (status ≡ 3))
  one_of (inl h) = inl h.0
  one_of (inr (inl h)) = absurd h.1
  one_of (inr (inr (inl h))) = inr (inl h.0)
  one_of (inr (inr (inr (inl h)))) = inr (inr h.0)
  one_of (inr (inr (inr (inr h)))) = absurd h.1

  given_misfit : (x : GuardedString) → Spells bytes (Different x) → (f : Finding) → IsFinding q x f → IsGiven x f status output → status ≡ 3 → IsMisfitLine bytes q output
  given_misfit x s (Shape k) found t three = inl (x, k, s, found, t.1)
  given_misfit x s (HypBroken h i j) found t three = absurd (omega (arith, three, t.0))
  given_misfit x s (Refutes left) found t three = absurd (omega (arith, three, t.0))
  given_misfit x s (EndsAgree both) found t three = absurd (omega (arith, three, t.0))

  misfit_printed : ReplaysBytes q bytes status output → status ≡ 3 → IsMisfitLine bytes q output
  misfit_printed (inl r) three = absurd (omega (arith, three, r.0))
  misfit_printed (inr (Equal c, s, t)) three = inr (c, s, t.1)
  misfit_printed (inr (Different x, s, t)) three = given_misfit x s t.0 t.1 t.2 three

  pub replayed_headline : ReplaysBytes q bytes status output → ReplayHeadline bytes q status output
  replayed_headline r =
      let ways : BytesWays q bytes status output = bytes_ways r in
      let given = at_zero status _ _ _ _ _ ways in
      let faulty = at_two status _ _ _ _ _ ways in
      record {
        answers = record {
          answers = one_of ways;
          fits = ((λ e. let h = given e in (h.0, h.1, h.2.0)), (λ h. fitting_status q h.0 status output h.2 (reads_spelled bytes (IsReplayed q) status output (Different h.0) h.1 r)));
          faulty = ((λ e. let h = faulty e in (h.fault, h.first)), (λ h. reads_no_evidence bytes (IsReplayed q) status output h.0 h.1 r));
          misfit = (at_three status _ _ _ _ _ ways, (λ h. no_string_status h r));
        };
        given = λ e. let h = given e in (h.0, h.2.1.0, h.1, h.2.1.1, h.2.1.2, h.2.1.3);
        faulty_output = λ fault first. fault_printed bytes output fault first (faulty (reads_no_evidence bytes (IsReplayed q) status output fault first r));
        misfit_output = misfit_printed r;
      }

pub texts_headline : (text bytes : List ℕ) (status : ℕ) (output : List ℕ) (q : ProblemParts) → Poses text q → ReplaysTexts text bytes status output → ReplayHeadline bytes q status output
texts_headline text bytes status output q poses r = replayed_headline q bytes status output (text_poses text (λ p. ReplaysBytes p bytes) status output q poses r)

replayed_once : (q : ProblemParts) (e : Evidence) → OneStatus (IsReplayed q e)
replayed_once q (Equal c) a b o p x y = x.0 ∙ sym y.0
replayed_once q (Different x) a b o p (f, found, t) y =
    ⊎_elim (λ h. h.0 ∙ sym (fitting_status q x b p h.1.0 y)) (λ h. h.0 ∙ sym (misfit_status q x b p h.1 y)) (given_ways q x a o f found t)

pub bytes_once : (q : ProblemParts) (bytes : List ℕ) → OneStatus (ReplaysBytes q bytes)
bytes_once q bytes = reads_evidence_once bytes (IsReplayed q) (replayed_once q)

-- ---- what the reply says

pub replay_reply : (text bytes : List ℕ) (status : ℕ) (output : List ℕ) → PosesFor (HasNoProblem text) (Poses text) (λ q. ReplaysBytes q bytes) status output → ReplayReply text bytes status output
replay_reply text bytes status output posed =
    let r : ReplaysTexts text bytes status output = posed_text text (λ q. ReplaysBytes q bytes) status output posed in
    record {
      replies = r;
      headline = λ q poses. texts_headline text bytes status output q poses r;
      declined = λ line none. abstracted_none text (λ f a. ReplaysBytes a.problem bytes) status output line none r;
    }

small : (q : ProblemParts) (bytes : List ℕ) (status : ℕ) (output : List ℕ) → ReplaysBytes q bytes status output → status < 4
small q bytes status output r = below (replayed_headline q bytes status output r).answers.answers
  where
    below : (status ≡ 0) ⊎ ((status ≡ 2) ⊎ (status ≡ 3)) → status < 4
    below h = grind (arith, h)

pub replay_one : (text bytes : List ℕ) → HasOneReply (ReplayReply text bytes) ⊥
replay_one text bytes = record {
  small = λ status output r. inl (text_small text (λ q. ReplaysBytes q bytes) (λ q. small q bytes) status output r.replies);
  once = λ a b o p x y. text_once text (λ q. ReplaysBytes q bytes) (λ q. bytes_once q bytes) a b o p x.replies y.replies;
}
