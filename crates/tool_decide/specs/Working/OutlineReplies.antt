-- The reply of `outline` to a text satisfies the statement on the question.
use Rattle.std.proofs.Common.{◌≡◌, ◌⊎◌, ◌<◌, ◌^◌, ℕ, List, [], ◌∷◌, ◌++◌, map, length, Option, None, Some, Ok, MatchOption, inl, inr, ⊎_elim, refl, sym, subst, ◌∙◌, arith}
use Rattle.std.proofs.lemmas.Option.{slice_get_within}
use Rattle.kat_model.specs.declared.limits.TheConstants.{MAX_TESTS}
use Rattle.kat_model.specs.Members.{Has}
use Rattle.kat_model.specs.Problems.{ProblemParts, IsProblem}
use Rattle.kat_model.specs.Relations.{Same}
use Rattle.kat_model.proofs.Lists.{has_append, has_map}
use Rattle.kat_model.proofs.Places.{place_of_member}
use Rattle.while_lang.specs.Files.{FileParts}
use Rattle.problem_file.specs.Reads.{Reads}
use Rattle.while_lang.specs.Concrete.{IsConcrete, Agrees}
use Rattle.abstraction.specs.Abstracts.{AbstractParts, abstract_of}
use Rattle.abstraction.specs.Readings.{Reading, KeepsStated, GoalHoldsBy}
use Rattle.outline_rules.specs.declared.notes.NoteNode.{NoteNode}
use Rattle.outline_rules.specs.declared.notes.NoteNode.TheVariants.{False, True, Branch}
use Rattle.outline_rules.specs.NoteLists.{NotesParts, AreNotes}
use Rattle.outline_rules.specs.Texts.{node_numbers, IsNarrow, AreNarrowNotes}
use Rattle.outline_rules.specs.Tasks.{TaskParts}
use Rattle.outline_rules.specs.Follows.{Follows, HasTests}
use Rattle.tool_inputs.specs.FileProblem.{Poses}
use Rattle.kat_report.specs.InputLines.{too_long_line}
use Rattle.tool_inputs.specs.Steps.{AbstractsFile}
use Rattle.tool_decide.specs.Decide.{IsDifferent, IsDecided}
use Rattle.tool_decide.specs.Triples.{HasTask, HasNoTask, TakesTask}
use Rattle.tool_decide.specs.Outline.{IsNoted, IsOutlined, OutlinesText, OutlineHeadline, OutlineReply}
use Rattle.tool_decide.specs.Working.NarrowCounts.{small, few_tests}
use Rattle.tool_inputs.proofs.Steps.{OneStatus, reads_denoted, small_status, text_long}
use Rattle.tool_inputs.proofs.FileReplies.{RefusesLong, HasOneReply}
use Rattle.tool_inputs.proofs.StoreSentences.{posed_agrees}
use Rattle.tool_decide.specs.Working.DecideReplies.{same_readings}
use Rattle.tool_decide.specs.Working.TextTriples.{takes_task, takes_none, poses_once, poses_takes, poses_none, task_small}
use Rattle.tool_inputs.proofs.Ways.{Ways, at_zero, at_one, at_two}

-- ---- the numbers in notes fit in 64 bits

-- a property of the line of each node and of each note holds for all lines
each_line : {L : Type 0} (P : L → Type 0) (f : NoteNode → L) (g : ℕ → L) (nodes : List NoteNode) (notes : List ℕ) → ((node : NoteNode) → Has nodes node → P (f node)) → ((n : ℕ) → Has notes n → P (g n)) → (l : L) → Has (map f nodes ++ map g notes) l → P l
each_line P f g nodes notes node note l h =
    ⊎_elim (λ m. let x = has_map f nodes l m in subst P x.2 (node x.0 x.1)) (λ m. let x = has_map g notes l m in subst P x.2 (note x.0 x.1)) (has_append (map f nodes) (map g notes) l h)

module _ (q : ProblemParts) (problem : IsProblem q) (ns : NotesParts) (has : HasTests q.tests ns.nodes) (are : AreNotes ns) (few : length ns.nodes < 2 ^ 64) where
  narrow_node : (node : NoteNode) → Has ns.nodes node → (k : ℕ) → Has (node_numbers node) k → k < 2 ^ 64
  narrow_node False h k m = absurd m
  narrow_node True h k m = absurd m
  narrow_node (Branch test low high) h k m =
      ⊎_elim
      (λ e. subst (λ n. n < 2 ^ 64) e (small MAX_TESTS test q.tests few_tests (has test low high h) problem.tests))
      (λ part.
      let place = place_of_member ns.nodes (Branch test low high) h in
      let before = are.ordered place.0 (Branch test low high) place.1 k part in
      let within = slice_get_within ns.nodes place.0 (Branch test low high) place.1 in
      omega (arith, before, within, few))
      m

  narrow_note : (n : ℕ) → Has ns.notes n → (k : ℕ) → Has (n ∷ []) k → k < 2 ^ 64
  narrow_note n h k m = ⊎_elim (λ e. let there = are.notes n h in subst (λ x. x < 2 ^ 64) e (omega (arith, there, few))) (λ none. absurd none) m

  pub narrow_notes : AreNarrowNotes ns
  narrow_notes = (are, each_line IsNarrow _ _ ns.nodes ns.notes narrow_node narrow_note)

-- ---- the reply to a problem and its triple

-- what the contract of `outline` says about its answer
module _ (q : ProblemParts) (t : TaskParts) (o : Option NotesParts) (given : MatchOption o (Same q → ⊥) (λ notes. Same q × Follows q t notes)) where
  abbrev IsGiven : Option NotesParts → Type 0
  IsGiven x = MatchOption x (Same q → ⊥) (λ notes. Same q × Follows q t notes)

  pub noted_at : (notes : NotesParts) → o ≡ Some notes → Same q × Follows q t notes
  noted_at notes is = subst IsGiven is given

  pub none_at : o ≡ None → Same q → ⊥
  none_at is = subst IsGiven is given

-- if the triple does not hold, the decision is a string
pub fails_decided : (q : ProblemParts) (status : ℕ) (output : List ℕ) → (Same q → ⊥) → IsDecided q status output → (status ≡ 1) × IsDifferent q output
fails_decided q status output fails (inl h) = absurd (fails h.1.same)
fails_decided q status output fails (inr h) = h

-- the possible statuses, each with its cause
abbrev TakenWays : FileParts → ProblemParts → ℕ → List ℕ → Type 0
TakenWays f q status output =
    Ways status ((t : TaskParts) × HasTask f q t × IsNoted q t output) ((t : TaskParts) × HasTask f q t × IsDifferent q output) (HasNoTask f q output) ⊥ ⊥

module _ (f : FileParts) (q : ProblemParts) (status : ℕ) (output : List ℕ) where
  taken_ways : TakesTask IsOutlined f q status output → TakenWays f q status output
  taken_ways (inl r) = inr (inr (inl r))
  taken_ways (inr (t, has, inl h)) = inl (h.0, (t, has, h.1))
  taken_ways (inr (t, has, inr h)) = inr (inl (h.0, (t, has, h.1)))

  at_noted : (t : TaskParts) → Same q → IsOutlined q t status output → (status ≡ 0) × IsNoted q t output
  at_noted t same (inl h) = h
  at_noted t same (inr h) = absurd (h.1.differ same)

  at_fails : (t : TaskParts) → (Same q → ⊥) → IsOutlined q t status output → status ≡ 1
  at_fails t fails (inl h) = absurd (fails h.1.same)
  at_fails t fails (inr h) = h.0

  one_of : TakenWays f q status output → (status ≡ 0) ⊎ ((status ≡ 1) ⊎ (status ≡ 2))
  one_of (inl h) = inl h.0
  one_of (inr (inl h)) = inr (inl h.0)
  one_of (inr (inr (inl h))) = inr (inr h.0)
  one_of (inr (inr (inr (inl h)))) = absurd h.1
  one_of (inr (inr (inr (inr h)))) = absurd h.1

  outlined_headline : TakesTask IsOutlined f q status output → OutlineHeadline f q status output
  outlined_headline r =
      let ways : TakenWays f q status output = taken_ways r in
      let noted = at_zero status _ _ _ _ _ ways in
      let fails = at_one status _ _ _ _ _ ways in
      record {
        answers = one_of ways;
        noted = ((λ e. let h = noted e in (h.0, h.1, h.2.same)), (λ h. (at_noted h.0 h.2 (takes_task f q IsOutlined status output h.0 h.1 r)).0));
        notes = λ t has same. (at_noted t same (takes_task f q IsOutlined status output t has r)).1;
        fails = ((λ e. let h = fails e in (h.0, h.1, h.2.differ)), (λ h. at_fails h.0 h.2 (takes_task f q IsOutlined status output h.0 h.1 r)));
        string = λ e. (fails e).2;
        refused = ((λ e. (output, at_two status _ _ _ _ _ ways e)), (λ h. (takes_none f q IsOutlined status output h.0 h.1 r).0));
        refused_line = λ line none. (takes_none f q IsOutlined status output line none r).1;
      }

outlined_once : (q : ProblemParts) (t : TaskParts) → OneStatus (IsOutlined q t)
outlined_once q t a b o p (inl x) (inl y) = x.0 ∙ sym y.0
outlined_once q t a b o p (inl x) (inr y) = absurd (y.1.differ x.1.same)
outlined_once q t a b o p (inr x) (inl y) = absurd (x.1.differ y.1.same)
outlined_once q t a b o p (inr x) (inr y) = x.0 ∙ sym y.0

-- ---- the reply to a text

pub text_headline : (text : List ℕ) (status : ℕ) (output : List ℕ) (q : ProblemParts) (poses : Poses text q) → OutlinesText text status output → OutlineHeadline poses.file q status output
text_headline text status output q poses r = outlined_headline poses.file q status output (poses_takes text IsOutlined status output q poses r)

-- if the status is 0, the goal of a concrete file holds for all its stores
pub text_stores : (text : List ℕ) (status : ℕ) (output : List ℕ) (f : FileParts) → Reads text f → IsConcrete f → OutlinesText text status output → status ≡ 0 → Agrees f
text_stores text status output f reads concrete r zero = stores (reads_denoted text (λ g. AbstractsFile g (λ a. TakesTask IsOutlined g a.problem)) status output f reads r)
  where
    stores : AbstractsFile f (λ a. TakesTask IsOutlined f a.problem) status output → Agrees f
    stores (inl refused) = absurd (omega (arith, zero, refused.0))
    stores (inr (a, is, taken)) =
        let poses : Poses text a.problem = record { file = f; reads = reads; abstract = a; is_abstract = is; question = refl } in
        posed_agrees text a.problem poses ((outlined_headline f a.problem status output taken).noted.0 zero).2 concrete

-- if the status is 0, the goal of a file holds for all its stores under every reading that keeps the stated hypotheses
pub text_readings : (text : List ℕ) (status : ℕ) (output : List ℕ) (f : FileParts) (a : AbstractParts) (r : Reading) → Reads text f → abstract_of f ≡ Ok a → KeepsStated f a r
    → OutlinesText text status output → status ≡ 0 → GoalHoldsBy f a r f.goal
text_readings text status output f a r reads is stated replies zero =
    same_readings text f a r reads is stated (λ poses. ((text_headline text status output a.problem poses replies).noted.0 zero).2)

-- ---- what the reply says

pub outline_reply : (text : List ℕ) (status : ℕ) (output : List ℕ) → OutlinesText text status output → OutlineReply text status output
outline_reply text status output r = record {
  replies = r;
  headline = λ q poses. text_headline text status output q poses r;
  stores = λ f reads concrete zero. text_stores text status output f reads concrete r zero;
  readings = λ f a reading reads is stated zero. text_readings text status output f a reading reads is stated r zero;
  declined = λ line none. poses_none text IsOutlined status output line none r;
}

pub outline_long : RefusesLong OutlineReply
outline_long text past = outline_reply text 2 too_long_line (text_long text (λ f. AbstractsFile f (λ a. TakesTask IsOutlined f a.problem)) past)

small_outlined : (q : ProblemParts) (t : TaskParts) (status : ℕ) (output : List ℕ) → IsOutlined q t status output → status < 4
small_outlined q t status output (inl h) = small_status status (inl h.0)
small_outlined q t status output (inr h) = small_status status (inr (inl h.0))

pub outline_one : (text : List ℕ) → HasOneReply (OutlineReply text) ⊥
outline_one text = record {
  small = λ status output r. inl (task_small text IsOutlined small_outlined status output r.replies);
  once = λ a b o p x y. poses_once text IsOutlined outlined_once a b o p x.replies y.replies;
}
