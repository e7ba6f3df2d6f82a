-- The reply of `chain` is the statement on the proof.
use Rattle.std.proofs.Common.{◌≡◌, ◌⊎◌, ◌<◌, ℕ, List, [], length, Ok, inl, inr, refl, sym, ap, subst, ◌∙◌, arith}
use Rattle.kat_model.specs.declared.limits.TheConstants.{MAX_TEXT_BYTES}
use Rattle.kat_model.specs.Problems.{ProblemParts}
use Rattle.kat_model.specs.Relations.{Same}
use Rattle.text_parser.specs.declared.fault.TextFault.{TextFault}
use Rattle.text_parser.specs.declared.fault.TextFault.TheVariants.{TooLong}
use Rattle.while_lang.specs.Files.{FileParts}
use Rattle.problem_file.specs.FirstFaults.{too_long, no_text}
use Rattle.problem_file.specs.Reads.{Reads}
use Rattle.problem_file.specs.Laws.{HaveOneAnswer}
use Rattle.while_lang.specs.Concrete.{IsConcrete, Agrees}
use Rattle.abstraction.specs.Abstracts.{AbstractParts, abstract_of}
use Rattle.abstraction.specs.Readings.{Reading, KeepsStated, GoalHoldsBy}
use Rattle.chain_rules.specs.Chains.{ChainTree}
use Rattle.chain_rules.specs.Chained.{IsChained}
use Rattle.chain_proofs.specs.Reads.{Reads as ReadsProof, FirstFault}
use Rattle.chain_proofs.proofs.OneAnswer.{have_one_answer}
use Rattle.tool_inputs.specs.FileProblem.{Poses}
use Rattle.tool_inputs.specs.TextProblem.{HasNoProblem}
use Rattle.tool_inputs.specs.Steps.{ReplySpec, PosesQuestion, PosesFor}
use Rattle.tool_check.specs.Chain.{accepted_chain_line, chain_fault_line, long_proof_line, SpellsChain, HasFault, IsNoChain, ReadsChain, IsUnproving, IsProved, ProvesBytes, ProvesTexts, ChainHeadline, ChainReply}
use Rattle.tool_inputs.proofs.Steps.{OneStatus, reads_denoted, text_poses, abstracted_none, text_small, text_once}
use Rattle.tool_inputs.proofs.TextReplies.{posed_text}
use Rattle.tool_inputs.proofs.FileReplies.{HasOneReply}
use Rattle.tool_inputs.proofs.StoreSentences.{posed_agrees}
use Rattle.tool_check.specs.Working.CheckReplies.{same_readings}
use Rattle.tool_inputs.proofs.Ways.{Ways, at_zero, at_two, at_three}

-- ---- the text of a proof is read

module _ (q : ProblemParts) (bytes : List ℕ) where
  one : HaveOneAnswer (ReadsProof q.tests q.actions) (FirstFault q.tests q.actions)
  one = have_one_answer q.tests q.actions

  module _ (GoesOn : ChainTree → ReplySpec) (status : ℕ) (output : List ℕ) where
    reads_chain : (c : ChainTree) → SpellsChain q bytes c → ReadsChain q bytes GoesOn status output → GoesOn c status output
    reads_chain c spells (inl r) = absurd (one.either bytes c r.1.fault spells r.1.first)
    reads_chain c spells (inr g) = subst (λ d. GoesOn d status output) (one.values bytes g.0 c g.1 spells) g.2

    reads_no_chain : (fault : TextFault) → HasFault q bytes fault → ReadsChain q bytes GoesOn status output → (status ≡ 2) × (output ≡ chain_fault_line fault)
    reads_no_chain fault first (inl r) = (r.0, r.1.printed ∙ ap chain_fault_line (one.faults bytes r.1.fault fault r.1.first first))
    reads_no_chain fault first (inr g) = absurd (one.either bytes g.0 fault g.1 first)

  reads_chain_once : (GoesOn : ChainTree → ReplySpec) → ((c : ChainTree) → OneStatus (GoesOn c)) → OneStatus (ReadsChain q bytes GoesOn)
  reads_chain_once GoesOn once a b o p (inl r) y = r.0 ∙ sym (reads_no_chain GoesOn b p r.1.fault r.1.first y).0
  reads_chain_once GoesOn once a b o p (inr g) y = once g.0 a b o p g.2 (reads_chain GoesOn b p g.0 g.1 y)

-- ---- the reply to bytes

-- the possible statuses, each with its cause
abbrev BytesWays : ProblemParts → List ℕ → ℕ → List ℕ → Type 0
BytesWays q bytes status output =
    Ways status
    ((c : ChainTree) × SpellsChain q bytes c × IsChained q c × Same q × (output ≡ accepted_chain_line))
    ⊥
    (IsNoChain q bytes output)
    ((c : ChainTree) × SpellsChain q bytes c × IsUnproving q c status output)
    ⊥

module _ (q : ProblemParts) (bytes : List ℕ) (status : ℕ) (output : List ℕ) where
  bytes_ways : ProvesBytes q bytes status output → BytesWays q bytes status output
  bytes_ways (inl r) = inr (inr (inl r))
  bytes_ways (inr (c, s, inl a)) = inl (a.has_status, (c, s, a.chained, a.same, a.printed))
  bytes_ways (inr (c, s, inr r)) = inr (inr (inr (inl (r.has_status, (c, s, r)))))

  proved_status : (c : ChainTree) → IsChained q c → IsProved q c status output → status ≡ 0
  proved_status c chained (inl a) = a.has_status
  proved_status c chained (inr r) = absurd (r.fails chained)

  rejected_status : (c : ChainTree) → (IsChained q c → ⊥) → IsProved q c status output → status ≡ 3
  rejected_status c fails (inl a) = absurd (fails a.chained)
  rejected_status c fails (inr r) = r.has_status

  one_of : BytesWays q bytes status output → (status ≡ 0) ⊎ ((status ≡ 2) ⊎ (status ≡ 3))
  one_of (inl h) = inl h.0
  one_of (inr (inl h)) = absurd h.1
  one_of (inr (inr (inl h))) = inr (inl h.0)
  one_of (inr (inr (inr (inl h)))) = inr (inr h.0)
  one_of (inr (inr (inr (inr h)))) = absurd h.1

  pub proved_headline : ProvesBytes q bytes status output → ChainHeadline bytes q status output
  proved_headline r =
      let ways : BytesWays q bytes status output = bytes_ways r in
      let proved = at_zero status _ _ _ _ _ ways in
      let faulty = at_two status _ _ _ _ _ ways in
      let rejected = at_three status _ _ _ _ _ ways in
      record {
        answers = record {
          answers = one_of ways;
          proved = ((λ e. let h = proved e in (h.0, h.1, h.2)), (λ h. proved_status h.0 h.2 (reads_chain q bytes (IsProved q) status output h.0 h.1 r)));
          faulty = ((λ e. let h = faulty e in (h.fault, h.first)), (λ h. (reads_no_chain q bytes (IsProved q) status output h.0 h.1 r).0));
          rejected = ((λ e. let h = rejected e in (h.0, h.1, h.2.fails)), (λ h. rejected_status h.0 h.2 (reads_chain q bytes (IsProved q) status output h.0 h.1 r)));
        };
        same = λ e. (proved e).3;
        accepted_line = λ e. (proved e).4;
        fault_line = λ fault first. (reads_no_chain q bytes (IsProved q) status output fault first r).1;
        reason_line = λ e. let h = rejected e in (h.0, h.2.reason, h.1, h.2.first, h.2.printed);
      }

pub texts_headline : (text bytes : List ℕ) (status : ℕ) (output : List ℕ) (q : ProblemParts) → Poses text q → ProvesTexts text bytes status output → ChainHeadline bytes q status output
texts_headline text bytes status output q poses r = proved_headline q bytes status output (text_poses text (λ p. ProvesBytes p bytes) status output q poses r)

-- if the status is 0, the goal of a concrete file holds for all its stores
pub texts_stores : (text bytes : List ℕ) (status : ℕ) (output : List ℕ) (f : FileParts) → Reads text f → IsConcrete f → ProvesTexts text bytes status output → status ≡ 0 → Agrees f
texts_stores text bytes status output f reads concrete r zero = stores (reads_denoted text (λ g. PosesQuestion g (λ p. ProvesBytes p bytes)) status output f reads r)
  where
    stores : PosesQuestion f (λ p. ProvesBytes p bytes) status output → Agrees f
    stores (inl refused) = absurd (omega (arith, zero, refused.0))
    stores (inr (a, is, d)) =
        let poses : Poses text a.problem = record { file = f; reads = reads; abstract = a; is_abstract = is; question = refl } in
        posed_agrees text a.problem poses ((proved_headline a.problem bytes status output d).same zero) concrete

-- if the status is 0, the goal of a file holds for all its stores under every reading that keeps the stated hypotheses
pub texts_readings : (text bytes : List ℕ) (status : ℕ) (output : List ℕ) (f : FileParts) (a : AbstractParts) (r : Reading) → Reads text f → abstract_of f ≡ Ok a → KeepsStated f a r
    → ProvesTexts text bytes status output → status ≡ 0 → GoalHoldsBy f a r f.goal
texts_readings text bytes status output f a r reads is stated replies zero =
    same_readings text f a r reads is stated (λ poses. (texts_headline text bytes status output a.problem poses replies).same zero)

proved_once : (q : ProblemParts) (c : ChainTree) → OneStatus (IsProved q c)
proved_once q c a b o p (inl x) y = x.has_status ∙ sym (proved_status q [] b p c x.chained y)
proved_once q c a b o p (inr x) y = x.has_status ∙ sym (rejected_status q [] b p c x.fails y)

pub bytes_once : (q : ProblemParts) (bytes : List ℕ) → OneStatus (ProvesBytes q bytes)
bytes_once q bytes = reads_chain_once q bytes (IsProved q) (proved_once q)

-- ---- what the reply says

pub chain_reply : (text bytes : List ℕ) (status : ℕ) (output : List ℕ) → PosesFor (HasNoProblem text) (Poses text) (λ q. ProvesBytes q bytes) status output → ChainReply text bytes status output
chain_reply text bytes status output posed =
    let r : ProvesTexts text bytes status output = posed_text text (λ q. ProvesBytes q bytes) status output posed in
    record {
      replies = r;
      headline = λ q poses. texts_headline text bytes status output q poses r;
      stores = λ f reads concrete zero. texts_stores text bytes status output f reads concrete r zero;
      readings = λ f a reading reads is stated zero. texts_readings text bytes status output f a reading reads is stated r zero;
      declined = λ line none. abstracted_none text (λ f a. ProvesBytes a.problem bytes) status output line none r;
    }

small : (q : ProblemParts) (bytes : List ℕ) (status : ℕ) (output : List ℕ) → ProvesBytes q bytes status output → status < 4
small q bytes status output r = below (proved_headline q bytes status output r).answers.answers
  where
    below : (status ≡ 0) ⊎ ((status ≡ 2) ⊎ (status ≡ 3)) → status < 4
    below h = grind (arith, h)

pub chain_one : (text bytes : List ℕ) → HasOneReply (ChainReply text bytes) ⊥
chain_one text bytes = record {
  small = λ status output r. inl (text_small text (λ q. ProvesBytes q bytes) (λ q. small q bytes) status output r.replies);
  once = λ a b o p x y. text_once text (λ q. ProvesBytes q bytes) (λ q. bytes_once q bytes) a b o p x.replies y.replies;
}

-- a proof that is too long is refused with its line
pub proof_refused : (q : ProblemParts) (bytes : List ℕ) → MAX_TEXT_BYTES < length bytes → ProvesBytes q bytes 2 long_proof_line
proof_refused q bytes past = inl (refl, record { fault = TooLong; first = no_text (too_long refl past); printed = refl })
