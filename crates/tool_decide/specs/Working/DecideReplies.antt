-- The reply of `decide` satisfies the statement on the question.
use Rattle.std.proofs.Common.{◌≡◌, ◌<◌, ℕ, List, Ok, inl, inr, ⊎_elim, refl, sym, ◌∙◌, arith}
use Rattle.kat_model.specs.Problems.{ProblemParts}
use Rattle.kat_model.specs.Relations.{Same}
use Rattle.bisim_worklist.proofs.AnswerCerts.{answer_accepted}
use Rattle.while_lang.specs.Files.{FileParts}
use Rattle.problem_file.specs.Reads.{Reads}
use Rattle.while_lang.specs.Concrete.{IsConcrete, Agrees}
use Rattle.abstraction.specs.Abstracts.{AbstractParts, abstract_of}
use Rattle.abstraction.specs.Readings.{Reading, KeepsStated, GoalHoldsBy}
use Rattle.abstraction.proofs.ReadingAgreement.{readings_agree}
use Rattle.kat_laws.proofs.Theories.{has_one_theory}
use Rattle.kat_laws.proofs.SmallStrings.{shortest_small}
use Rattle.chain_rules.proofs.Soundness.{chained_same}
use Rattle.tool_inputs.specs.FileProblem.{Poses}
use Rattle.kat_report.specs.InputLines.{too_long_line}
use Rattle.tool_inputs.specs.Steps.{PosesQuestion}
use Rattle.tool_decide.specs.Decide.{IsDecided, DecidesText, Headline, DecideReply}
use Rattle.tool_decide.specs.Working.FewPairs.{answer_small}
use Rattle.tool_inputs.proofs.Steps.{OneStatus, reads_denoted, text_poses, abstracted_none, small_status, text_small, text_long, text_once}
use Rattle.tool_inputs.proofs.FileReplies.{RefusesLong, HasOneReply}
use Rattle.tool_inputs.proofs.Ranges.{numbers_in_range}
use Rattle.tool_inputs.proofs.StoreSentences.{posed_agrees}

pub not_both : (status : ℕ) → status ≡ 0 → status ≡ 1 → ⊥
not_both status zero one = omega (arith, zero, one)

pub decided_headline : (q : ProblemParts) (status : ℕ) (output : List ℕ) → IsDecided q status output → Headline q status output
decided_headline q status output (inl h) = record {
  answers = inl h.0;
  equal = ((λ _. h.1.same), (λ _. h.0));
  models = ((λ _. (has_one_theory q).models.0 h.1.same), (λ _. h.0));
  chains = ((λ _. h.1.chain), (λ _. h.0));
  different = ((λ e. absurd (not_both status h.0 e)), (λ differ. absurd (differ h.1.same)));
  certificate = λ e. (h.1.cert, answer_accepted q h.1.cert h.1.answer, answer_small q h.1.cert h.1.answer, h.1.printed);
  string = λ e. absurd (not_both status h.0 e);
}
decided_headline q status output (inr h) = record {
  answers = inr h.0;
  equal = ((λ e. absurd (not_both status e h.0)), (λ same. absurd (h.1.differ same)));
  models = ((λ e. absurd (not_both status e h.0)), (λ same. absurd (h.1.differ ((has_one_theory q).models.1 same))));
  chains = ((λ e. absurd (not_both status e h.0)), (λ c. absurd (h.1.differ (chained_same q c.chain c.is))));
  different = ((λ _. h.1.differ), (λ _. h.0));
  certificate = λ e. absurd (not_both status e h.0);
  string = λ e. (h.1.string, h.1.shortest, shortest_small q h.1.string h.1.shortest, h.1.printed);
}

pub text_headline : (text : List ℕ) (status : ℕ) (output : List ℕ) (q : ProblemParts) → Poses text q → DecidesText text status output → Headline q status output
text_headline text status output q poses r = decided_headline q status output (text_poses text IsDecided status output q poses r)

-- if the status is 0, the goal of a concrete file holds for all its stores
pub question_stores : (text : List ℕ) (f : FileParts) → Reads text f → IsConcrete f → (a : AbstractParts) → abstract_of f ≡ Ok a → (status : ℕ) (output : List ℕ) → IsDecided a.problem status output → status ≡ 0 → Agrees f
question_stores text f reads concrete a is status output d zero =
    let poses : Poses text a.problem = record { file = f; reads = reads; abstract = a; is_abstract = is; question = refl } in
    posed_agrees text a.problem poses ((decided_headline a.problem status output d).equal.0 zero) concrete

pub text_stores : (text : List ℕ) (status : ℕ) (output : List ℕ) (f : FileParts) → Reads text f → IsConcrete f → DecidesText text status output → status ≡ 0 → Agrees f
text_stores text status output f reads concrete r zero =
    ⊎_elim
    (λ refused. absurd (omega (arith, zero, refused.0)))
    (λ h. question_stores text f reads concrete h.0 h.1 status output h.2 zero)
    (reads_denoted text (λ g. PosesQuestion g IsDecided) status output f reads r)

-- if the sides of its question are the same, the goal of a file holds for all its stores under every reading that keeps
-- the stated hypotheses
pub same_readings : (text : List ℕ) (f : FileParts) (a : AbstractParts) (r : Reading) → Reads text f → abstract_of f ≡ Ok a → KeepsStated f a r → (Poses text a.problem → Same a.problem) → GoalHoldsBy f a r f.goal
same_readings text f a r reads is stated same =
    readings_agree f a r (numbers_in_range text f reads) is stated (same (record { file = f; reads = reads; abstract = a; is_abstract = is; question = refl }))

-- if the status is 0, the goal of a file holds for all its stores under every reading that keeps the stated hypotheses
pub text_readings : (text : List ℕ) (status : ℕ) (output : List ℕ) (f : FileParts) (a : AbstractParts) (r : Reading) → Reads text f → abstract_of f ≡ Ok a → KeepsStated f a r
    → DecidesText text status output → status ≡ 0 → GoalHoldsBy f a r f.goal
text_readings text status output f a r reads is stated replies zero =
    same_readings text f a r reads is stated (λ poses. (text_headline text status output a.problem poses replies).equal.0 zero)

pub decided_once : (q : ProblemParts) → OneStatus (IsDecided q)
decided_once q a b o p (inl h) y = h.0 ∙ sym ((decided_headline q b p y).equal.1 h.1.same)
decided_once q a b o p (inr h) y = h.0 ∙ sym ((decided_headline q b p y).different.1 h.1.differ)

-- ---- what the reply says

pub decide_reply : (text : List ℕ) (status : ℕ) (output : List ℕ) → DecidesText text status output → DecideReply text status output
decide_reply text status output r = record {
  replies = r;
  headline = λ q poses. text_headline text status output q poses r;
  stores = λ f reads concrete zero. text_stores text status output f reads concrete r zero;
  readings = λ f a reading reads is stated zero. text_readings text status output f a reading reads is stated r zero;
  declined = λ line none. abstracted_none text (λ f a. IsDecided a.problem) status output line none r;
}

pub decide_long : RefusesLong DecideReply
decide_long text past = decide_reply text 2 too_long_line (text_long text (λ f. PosesQuestion f IsDecided) past)

pub decided_small : (q : ProblemParts) (status : ℕ) (output : List ℕ) → IsDecided q status output → status < 4
decided_small q status output (inl h) = small_status status (inl h.0)
decided_small q status output (inr h) = small_status status (inr (inl h.0))

pub decide_one : (text : List ℕ) → HasOneReply (DecideReply text) ⊥
decide_one text = record {
  small = λ status output r. inl (text_small text IsDecided decided_small status output r.replies);
  once = λ a b o p x y. text_once text IsDecided decided_once a b o p x.replies y.replies;
}
