-- The reply of `outline` to a text and notes is the statement on the notes.
use Rattle.std.proofs.Common.{◌≡◌, ◌≢◌, ◌⊎◌, ◌<◌, ℕ, List, Some, Ok, inl, inr, ⊎_elim, refl, sym, ap, subst, ◌∙◌, arith}
use Rattle.std.proofs.lemmas.Option.{same_Some}
use Rattle.kat_model.specs.Problems.{ProblemParts}
use Rattle.while_lang.specs.Files.{FileParts}
use Rattle.problem_file.specs.Reads.{Reads}
use Rattle.while_lang.specs.Concrete.{IsConcrete, Agrees}
use Rattle.abstraction.specs.Abstracts.{AbstractParts, abstract_of}
use Rattle.abstraction.specs.Readings.{Reading, KeepsStated, GoalHoldsBy}
use Rattle.outline_rules.specs.declared.fault.NotesFault.{NotesFault}
use Rattle.outline_rules.specs.declared.fault.NotesFault.TheVariants.{NoMemory}
use Rattle.outline_rules.specs.NoteLists.{NotesParts}
use Rattle.outline_rules.specs.Faults.{notes_fault}
use Rattle.outline_rules.specs.Readings.{IsFault}
use Rattle.outline_rules.proofs.Exactness.{texts_differ_lem, is_text_or_faulty_lem}
use Rattle.outline_rules.specs.Tasks.{TaskParts, task_parts, IsTripleOf}
use Rattle.outline_rules.specs.Follows.{Follows}
use Rattle.outline_rules.specs.Reasons.{IsFirstReason}
use Rattle.outline_rules.specs.declared.answer.NoteReason.{NoteReason}
use Rattle.outline_rules.proofs.Soundness.{follows_same}
use Rattle.outline_rules.proofs.Against.{reasons_against}
use Rattle.tool_inputs.specs.FileProblem.{Poses}
use Rattle.kat_report.specs.Acceptances.{accepted_outline_line}
use Rattle.kat_report.specs.OutlineLines.{notes_fault_line, note_reason_line}
use Rattle.tool_inputs.specs.Steps.{ReplySpec, AbstractsFile, PosesFor}
use Rattle.tool_decide.specs.Triples.{HasTask, TakesTask, PosesNoTask}
use Rattle.tool_decide.specs.OutlineCheck.{SpellsNotes, IsNoNotes, ReadsNotes, AreAccepted, AreRejected, AreChecked, ChecksNotes, ChecksNoteTexts, HasNoNotes, NotesHeadline, OutlineCheckReply}
use Rattle.tool_inputs.proofs.Steps.{OneStatus, reads_denoted, small_status}
use Rattle.tool_inputs.proofs.FileReplies.{HasOneReply}
use Rattle.tool_inputs.proofs.StoreSentences.{posed_agrees}
use Rattle.tool_decide.specs.Working.DecideReplies.{same_readings}
use Rattle.tool_decide.specs.Working.TextTriples.{takes_task, takes_none, poses_once, poses_takes, poses_none, answered_task, task_small, IsPosed}
use Rattle.tool_inputs.proofs.Ways.{Ways, at_zero, at_two, at_three}

-- ---- notes are read

-- a reported fault is the first, unless memory ran out
pub fault_is : (bytes : List ℕ) (fault : NotesFault) → fault ≢ NoMemory → IsFault bytes fault → notes_fault bytes ≡ Some fault
fault_is bytes NoMemory other is = absurd (other refl)
fault_is bytes fault other is = is

module _ (bytes : List ℕ) where
  spelled_same : (ms ns : NotesParts) → SpellsNotes bytes ms → SpellsNotes bytes ns → ms ≡ ns
  spelled_same ms ns s t = texts_differ_lem ms ns s.narrow t.narrow (sym s.text ∙ t.text)

  spelled_faultless : (ns : NotesParts) (fault : NotesFault) → SpellsNotes bytes ns → notes_fault bytes ≡ Some fault → ⊥
  spelled_faultless ns fault s f = ⊎_elim (λ h. h.1 (fault, f)) (λ h. h.0 (ns, s.narrow, s.text)) (is_text_or_faulty_lem bytes)

  module _ (GoesOn : NotesParts → ReplySpec) (status : ℕ) (output : List ℕ) where
    reads_notes : (ns : NotesParts) → SpellsNotes bytes ns → ReadsNotes bytes GoesOn status output → GoesOn ns status output
    reads_notes ns s (inl r) = absurd (spelled_faultless ns r.1.fault s r.1.first)
    reads_notes ns s (inr g) = subst (λ m. GoesOn m status output) (spelled_same g.0 ns g.1 s) g.2

    reads_none : (line : List ℕ) → IsNoNotes bytes line → ReadsNotes bytes GoesOn status output → (status ≡ 2) × (output ≡ line)
    reads_none line n (inl r) = (r.0, r.1.printed ∙ ap notes_fault_line (same_Some r.1.fault n.fault (sym r.1.first ∙ n.first)) ∙ sym n.printed)
    reads_none line n (inr g) = absurd (spelled_faultless g.0 n.fault g.1 n.first)

  reads_notes_once : (GoesOn : NotesParts → ReplySpec) → ((ns : NotesParts) → OneStatus (GoesOn ns)) → OneStatus (ReadsNotes bytes GoesOn)
  reads_notes_once GoesOn once a b o p (inl r) y = r.0 ∙ sym (reads_none GoesOn b p o r.1 y).0
  reads_notes_once GoesOn once a b o p (inr g) y = once g.0 a b o p g.2 (reads_notes GoesOn b p g.0 g.1 y)

-- ---- the reply to a problem, its triple and notes

module _ (q : ProblemParts) (t : TaskParts) (ns : NotesParts) (status : ℕ) (output : List ℕ) where
  -- what the parts of the program reply
  pub notes_accepted : IsTripleOf q t → Follows q t ns → (status ≡ 0) × (output ≡ accepted_outline_line) → AreChecked q t ns status output
  notes_accepted triple follows e = inl (record { follows = follows; same = follows_same q t ns triple follows; has_status = e.0; printed = e.1 })

  pub notes_rejected : (reason : NoteReason) → IsFirstReason q t ns reason → (status ≡ 3) × (output ≡ note_reason_line reason) → AreChecked q t ns status output
  notes_rejected reason first e = inr (record { fails = reasons_against q t ns reason first; reason = reason; first = first; has_status = e.0; printed = e.1 })

  accepted_status : Follows q t ns → AreChecked q t ns status output → status ≡ 0
  accepted_status follows (inl a) = a.has_status
  accepted_status follows (inr r) = absurd (r.fails follows)

  is_rejected : (Follows q t ns → ⊥) → AreChecked q t ns status output → AreRejected q t ns status output
  is_rejected fails (inl a) = absurd (fails a.follows)
  is_rejected fails (inr r) = r

checked_once : (q : ProblemParts) (t : TaskParts) (ns : NotesParts) → OneStatus (AreChecked q t ns)
checked_once q t ns a b o p (inl x) y = x.has_status ∙ sym (accepted_status q t ns b p x.follows y)
checked_once q t ns a b o p (inr x) y = x.has_status ∙ sym (is_rejected q t ns b p x.fails y).has_status

pub notes_once : (bytes : List ℕ) (q : ProblemParts) (t : TaskParts) → OneStatus (ChecksNotes bytes q t)
notes_once bytes q t = reads_notes_once bytes (AreChecked q t) (checked_once q t)

-- ---- the reply to bytes

-- the possible statuses, each with its cause
abbrev TakenWays : List ℕ → FileParts → ProblemParts → ℕ → List ℕ → Type 0
TakenWays bytes f q status output =
    Ways status
    ((t : TaskParts) × (ns : NotesParts) × HasTask f q t × SpellsNotes bytes ns × AreAccepted q t ns status output)
    ⊥
    (HasNoNotes f q bytes output)
    ((t : TaskParts) × (ns : NotesParts) × HasTask f q t × SpellsNotes bytes ns × AreRejected q t ns status output)
    ⊥

module _ (bytes : List ℕ) (f : FileParts) (q : ProblemParts) (status : ℕ) (output : List ℕ) where
  taken_ways : TakesTask (ChecksNotes bytes) f q status output → TakenWays bytes f q status output
  taken_ways (inl r) = inr (inr (inl (r.0, inl r.1)))
  taken_ways (inr (t, has, inl r)) = inr (inr (inl (r.0, inr (t, has, r.1))))
  taken_ways (inr (t, has, inr (ns, s, inl a))) = inl (a.has_status, (t, ns, has, s, a))
  taken_ways (inr (t, has, inr (ns, s, inr r))) = inr (inr (inr (inl (r.has_status, (t, ns, has, s, r)))))

  one_of : TakenWays bytes f q status output → (status ≡ 0) ⊎ ((status ≡ 2) ⊎ (status ≡ 3))
  one_of (inl h) = inl h.0
  one_of (inr (inl h)) = absurd h.1
  one_of (inr (inr (inl h))) = inr (inl h.0)
  one_of (inr (inr (inr (inl h)))) = inr (inr h.0)
  one_of (inr (inr (inr (inr h)))) = absurd h.1

  module _ (r : TakesTask (ChecksNotes bytes) f q status output) where
    checked : (t : TaskParts) (ns : NotesParts) → HasTask f q t → SpellsNotes bytes ns → AreChecked q t ns status output
    checked t ns has s = reads_notes bytes (AreChecked q t) status output ns s (takes_task f q (ChecksNotes bytes) status output t has r)

    refused : (line : List ℕ) → HasNoNotes f q bytes line → (status ≡ 2) × (output ≡ line)
    refused line (inl none) = takes_none f q (ChecksNotes bytes) status output line none r
    refused line (inr (t, has, none)) = reads_none bytes (AreChecked q t) status output line none (takes_task f q (ChecksNotes bytes) status output t has r)

    notes_headline : NotesHeadline bytes f q status output
    notes_headline =
        let ways : TakenWays bytes f q status output = taken_ways r in
        let accepted = at_zero status _ _ _ _ _ ways in
        let rejected = at_three status _ _ _ _ _ ways in
        record {
          answers = one_of ways;
          accepted = ((λ e. let h = accepted e in (h.0, h.1, h.2, h.3, h.4.follows)), (λ h. accepted_status q h.0 h.1 status output h.4 (checked h.0 h.1 h.2 h.3)));
          same = λ e. (accepted e).4.same;
          accepted_line = λ e. (accepted e).4.printed;
          refused = ((λ e. (output, at_two status _ _ _ _ _ ways e)), (λ h. (refused h.0 h.1).0));
          refused_line = λ line none. (refused line none).1;
          rejected = ((λ e. let h = rejected e in (h.0, h.1, h.2, h.3, h.4.fails)), (λ h. (is_rejected q h.0 h.1 status output h.4 (checked h.0 h.1 h.2 h.3)).has_status));
          reason_line = λ t ns has s fails. is_rejected q t ns status output fails (checked t ns has s);
        }

pub texts_headline : (text bytes : List ℕ) (status : ℕ) (output : List ℕ) (q : ProblemParts) (poses : Poses text q) → ChecksNoteTexts text bytes status output → NotesHeadline bytes poses.file q status output
texts_headline text bytes status output q poses r = notes_headline bytes poses.file q status output (poses_takes text (ChecksNotes bytes) status output q poses r)

-- if the status is 0, the goal of a concrete file holds for all its stores
pub texts_stores : (text bytes : List ℕ) (status : ℕ) (output : List ℕ) (f : FileParts) → Reads text f → IsConcrete f → ChecksNoteTexts text bytes status output → status ≡ 0 → Agrees f
texts_stores text bytes status output f reads concrete r zero = stores (reads_denoted text (λ g. AbstractsFile g (λ a. TakesTask (ChecksNotes bytes) g a.problem)) status output f reads r)
  where
    stores : AbstractsFile f (λ a. TakesTask (ChecksNotes bytes) f a.problem) status output → Agrees f
    stores (inl refused) = absurd (omega (arith, zero, refused.0))
    stores (inr (a, is, taken)) =
        let poses : Poses text a.problem = record { file = f; reads = reads; abstract = a; is_abstract = is; question = refl } in
        posed_agrees text a.problem poses ((notes_headline bytes f a.problem status output taken).same zero) concrete

-- if the status is 0, the goal of a file holds for all its stores under every reading that keeps the stated hypotheses
pub texts_readings : (text bytes : List ℕ) (status : ℕ) (output : List ℕ) (f : FileParts) (a : AbstractParts) (r : Reading) → Reads text f → abstract_of f ≡ Ok a → KeepsStated f a r
    → ChecksNoteTexts text bytes status output → status ≡ 0 → GoalHoldsBy f a r f.goal
texts_readings text bytes status output f a r reads is stated replies zero =
    same_readings text f a r reads is stated (λ poses. (texts_headline text bytes status output a.problem poses replies).same zero)

-- ---- what the reply says

pub outline_check_reply : (text bytes : List ℕ) (status : ℕ) (output : List ℕ) → PosesFor (PosesNoTask text) (IsPosed text) (λ t. ChecksNotes bytes t.problem (task_parts t.task)) status output → OutlineCheckReply text bytes status output
outline_check_reply text bytes status output posed =
    let r : ChecksNoteTexts text bytes status output = answered_task text (ChecksNotes bytes) status output posed in
    record {
      replies = r;
      headline = λ q poses. texts_headline text bytes status output q poses r;
      stores = λ f reads concrete zero. texts_stores text bytes status output f reads concrete r zero;
      readings = λ f a reading reads is stated zero. texts_readings text bytes status output f a reading reads is stated r zero;
      declined = λ line none. poses_none text (ChecksNotes bytes) status output line none r;
    }

small_checked : (bytes : List ℕ) (q : ProblemParts) (t : TaskParts) (status : ℕ) (output : List ℕ) → ChecksNotes bytes q t status output → status < 4
small_checked bytes q t status output (inl r) = small_status status (inr (inr (inl r.0)))
small_checked bytes q t status output (inr (ns, s, inl a)) = small_status status (inl a.has_status)
small_checked bytes q t status output (inr (ns, s, inr r)) = small_status status (inr (inr (inr r.has_status)))

pub outline_check_one : (text bytes : List ℕ) → HasOneReply (OutlineCheckReply text bytes) ⊥
outline_check_one text bytes = record {
  small = λ status output r. inl (task_small text (ChecksNotes bytes) (small_checked bytes) status output r.replies);
  once = λ a b o p x y. poses_once text (ChecksNotes bytes) (notes_once bytes) a b o p x.replies y.replies;
}
