-- Facts about the replies to all commands, and how a call of `run` sends them.
use Rattle.std.proofs.Common.{◌≡◌, ◌⊎◌, ◌<◌, ◌≤◌, ℕ, List, ◌∷◌, [], None, Some, Result, Ok, Err, IfOk, inl, inr, ⊎_elim, refl, sym, subst, ◌∙◌, arith}
use Rattle.std.proofs.lemmas.Option.{same_Some}
use Rattle.std.specs.Io.KnownBytes.{Appends}
use Rattle.kat_io.specs.Outside.{FaultCounted, AppendsPrefix}
use Rattle.kat_model.specs.declared.tree.NoMemory.{NoMemory as OutOfMemory}
use Rattle.kat_model.specs.Members.{Has}
use Rattle.kat_model.specs.Problems.{ProblemParts}
use Rattle.bisim_worklist.proofs.AnswerCerts.{answer_accepted}
use Rattle.outline_rules.specs.Tasks.{TaskParts}
use Rattle.tool_commands.specs.Commands.{Command, decide, decide_json, show, gkat, flow, batch, check, replay, explain, try_goal, try_with, outline, outline_check, chain, run, oneloop, bench, optimise, command_of, files_of}
use Rattle.tool_inputs.specs.Contents.{MayContain}
use Rattle.tool_inputs.specs.FileProblem.{Poses, HasProblem}
use Rattle.tool_inputs.specs.Steps.{ShelfUse, ReplySpec, HasFailedOn}
use Rattle.tool_inputs.specs.FileReplies.{OfFile}
use Rattle.tool_inputs.specs.ReplySpecs.{RepliesWith, KeepsFaultCount, settled}
use Rattle.tool_inputs.specs.declared.reply.Reply.{Reply}
use Rattle.tool_inputs.specs.declared.reply.EarlyEnd.{EarlyEnd}
use Rattle.tool_inputs.specs.declared.reply.EarlyEnd.TheVariants.{NoMemory, Replied}
use Rattle.tool_decide.specs.Decide.{IsDecided, DecidesText, DecideReply}
use Rattle.tool_decide.specs.DecideJson.{DecideJsonReply}
use Rattle.tool_decide.specs.Batch.{BatchReply}
use Rattle.tool_check.specs.Check.{CheckStatus, CheckReply}
use Rattle.tool_check.specs.Replay.{ReplayReply}
use Rattle.tool_check.specs.Chain.{ChainReply}
use Rattle.tool_explain.specs.Explain.{ExplainReply}
use Rattle.tool_try.specs.Try.{TryReply}
use Rattle.tool_try.specs.Questions.{HasConcrete}
use Rattle.tool_try.specs.TryWith.{TryWithReply}
use Rattle.tool_decide.specs.Triples.{HasTask, PosesSomeTask}
use Rattle.tool_decide.specs.Outline.{IsNoted, OutlinesText, OutlineReply}
use Rattle.tool_decide.specs.OutlineCheck.{OutlineCheckReply}
use Rattle.tool_flow.specs.Flow.{FlowReply}
use Rattle.tool_programs.specs.Show.{ShowReply}
use Rattle.tool_programs.specs.Gkat.{GkatReply}
use Rattle.tool_programs.specs.Running.{DoesNotFit, RunReply}
use Rattle.tool_programs.specs.OneLoop.{LacksProgram, OneLoopReply}
use Rattle.tool_decide.specs.Optimise.{LacksAnyProgram, OptimiseReply}
use Rattle.kat_tool.specs.Replies.{RepliesTo, MayNotFit, HasNoCommand, Replies}
use Rattle.kat_tool.specs.Run.{HasFailed, IsUnfit, IsReply, Call, IsRun}
use Rattle.kat_tool.specs.Laws.{CausesExclude, CheckAgrees, NotesFollow}
use Rattle.tool_inputs.proofs.Contents.{held_same}
use Rattle.tool_inputs.proofs.ReplySpecs.{into_replied}
use Rattle.tool_inputs.proofs.FileReplies.{HasOneReply, HasOneFileReply, of_both_given, of_file, of_two_files}
use Rattle.tool_decide.specs.Working.DecideReplies.{decide_one}
use Rattle.tool_decide.specs.Working.ReportReplies.{decide_json_one}
use Rattle.tool_decide.specs.Working.BatchReplies.{batch_one}
use Rattle.tool_decide.proofs.BenchReplies.{bench_one}
use Rattle.tool_check.specs.Working.CheckReplies.{check_one}
use Rattle.tool_check.specs.Working.ReplayReplies.{replay_one}
use Rattle.tool_check.specs.Working.ChainReplies.{chain_one}
use Rattle.tool_explain.specs.Working.ExplainReplies.{explain_one}
use Rattle.tool_try.specs.Working.TryReplies.{try_one, try_with_one}
use Rattle.tool_decide.specs.Working.OutlineReplies.{outline_one}
use Rattle.tool_decide.specs.Working.NotesReplies.{outline_check_one}
use Rattle.tool_flow.specs.Working.FlowReplies.{flow_one}
use Rattle.tool_programs.specs.Working.ShowReplies.{show_one}
use Rattle.tool_programs.specs.Working.GkatReplies.{gkat_one}
use Rattle.tool_programs.specs.Working.RunReplies.{run_one}
use Rattle.tool_programs.specs.Working.OneLoopReplies.{one_loop_one}
use Rattle.tool_decide.specs.Working.OptimiseReplies.{optimise_one}
use Rattle.kat_report.specs.InputLines.{words_line}

-- ---- all commands

-- a command on one file whose words fit every file
plain_file : (s : ShelfUse) (file : List ℕ) (R : List ℕ → ReplySpec) → ((bytes : List ℕ) → HasOneReply (R bytes) ⊥) → HasOneFileReply s (file ∷ []) (OfFile s file R) ⊥
plain_file s file R one = record { small = λ status output r. plain status output (facts.small status output r); once = facts.once }
  where
    facts : HasOneFileReply s (file ∷ []) (OfFile s file R) ((bytes : List ℕ) × MayContain (s.content file) bytes × ⊥)
    facts = of_file s file R (λ bytes. ⊥) one

    plain : (status : ℕ) (output : List ℕ)
        → (status < 4) ⊎ (((f : List ℕ) × Has (file ∷ []) f × HasFailedOn s f status output) ⊎ ((status ≡ 7) × (((bytes : List ℕ) × MayContain (s.content file) bytes × ⊥) × (output ≡ words_line))))
        → (status < 4) ⊎ (((f : List ℕ) × Has (file ∷ []) f × HasFailedOn s f status output) ⊎ ((status ≡ 7) × (⊥ × (output ≡ words_line))))
    plain status output (inl lt) = inl lt
    plain status output (inr (inl f)) = inr (inl f)
    plain status output (inr (inr h)) = absurd h.1.0.2

command_one : (s : ShelfUse) (command : Command) → HasOneFileReply s (files_of command) (RepliesTo s command) (MayNotFit s command)
command_one s (decide file) = plain_file s file DecideReply decide_one
command_one s (decide_json file) = plain_file s file DecideJsonReply decide_json_one
command_one s (show file) = plain_file s file ShowReply show_one
command_one s (gkat file) = plain_file s file GkatReply gkat_one
command_one s (flow file) = plain_file s file FlowReply flow_one
command_one s (batch file) = plain_file s file BatchReply batch_one
command_one s (check file other) = of_two_files s file other HasProblem CheckReply check_one
command_one s (replay file other) = of_two_files s file other HasProblem ReplayReply replay_one
command_one s (explain file other) = of_two_files s file other HasProblem ExplainReply explain_one
command_one s (try_goal file turns) = plain_file s file (λ t. TryReply t turns) (λ t. try_one t turns)
command_one s (try_with file turns other) = of_two_files s file other HasConcrete (TryWithReply turns) (try_with_one turns)
command_one s (outline file) = plain_file s file OutlineReply outline_one
command_one s (outline_check file other) = of_two_files s file other PosesSomeTask OutlineCheckReply outline_check_one
command_one s (chain file other) = of_two_files s file other HasProblem ChainReply chain_one
command_one s (run file prog store turns) = of_file s file (λ t. RunReply t prog store turns) (λ t. DoesNotFit t prog store) (λ t. run_one t prog store turns)
command_one s (oneloop file prog) = of_file s file (λ t. OneLoopReply t prog) (λ t. LacksProgram t prog) (λ t. one_loop_one t prog)
command_one s (bench count) = bench_one s count
command_one s (optimise file prog turns) = of_file s file (λ t. OptimiseReply t prog turns) (λ t. LacksAnyProgram t prog) (λ t. optimise_one t prog turns)

-- the reply of a command, with its count of faults
with_count : (R : ReplySpec) (before now : ℕ) (ended : Result Reply EarlyEnd) → RepliesWith R ended → KeepsFaultCount before now ended → RepliesWith (λ status output. R status output × ((status ≡ 4) ⊎ (now ≡ before))) ended
with_count R before now (Ok r) replied counts = (replied, inr counts)
with_count R before now (Err (Replied r)) replied counts = (replied, counts)
with_count R before now (Err NoMemory) replied counts = tt

pub words_replied : (s : ShelfUse) (words : List (List ℕ)) (command : Command) → command_of words ≡ Some command → (ended : Result Reply EarlyEnd) (result : Result Reply OutOfMemory) → result ≡ settled ended → RepliesWith (RepliesTo s command) ended → KeepsFaultCount s.before s.now ended
    → IfOk result (λ r. Replies s words r.status r.output.items)
words_replied s words command is ended result settles replied counts =
    into_replied (λ status output. RepliesTo s command status output × ((status ≡ 4) ⊎ (s.now ≡ s.before))) (Replies s words)
    (λ status output h. record { counts = h.1; cause = inr (command, is, h.0) })
    ended result settles (with_count (RepliesTo s command) s.before s.now ended replied counts)

-- ---- the reply to words

module _ (s : ShelfUse) (words : List (List ℕ)) (status : ℕ) (output : List ℕ) where
  abbrev Cause : Type 0
  Cause = HasNoCommand words status output ⊎ ((c : Command) × (command_of words ≡ Some c) × RepliesTo s c status output)

  abbrev Ways : Command → Type 0
  Ways c = (status < 4) ⊎ (((file : List ℕ) × Has (files_of c) file × HasFailedOn s file status output) ⊎ ((status ≡ 7) × (MayNotFit s c × (output ≡ words_line))))

  -- the reply is the reply to the command of the words
  replied_to : (command : Command) → command_of words ≡ Some command → Cause → RepliesTo s command status output
  replied_to command is (inl h) = let none = h.none in absurd cc
  replied_to command is (inr (c, was, r)) = subst (λ d. RepliesTo s d status output) (same_Some c command (sym was ∙ is)) r

  unfit_is : (c : Command) → command_of words ≡ Some c → Ways c → status ≡ 7 → ((command_of words ≡ None) ⊎ IsUnfit s words) × (output ≡ words_line)
  unfit_is c was (inl lt) seven = absurd (omega (arith, lt, seven))
  unfit_is c was (inr (inl f)) seven = let four = f.2.has_status in absurd (omega (arith, four, seven))
  unfit_is c was (inr (inr h)) seven = (inr (c, was, h.1.0), h.1.1)

  refused_is : Cause → status ≡ 7 → ((command_of words ≡ None) ⊎ IsUnfit s words) × (output ≡ words_line)
  refused_is (inl h) seven = (inl h.none, h.printed)
  refused_is (inr (c, was, r)) seven = unfit_is c was ((command_one s c).small status output r) seven

  none_is : Cause → command_of words ≡ None → status ≡ 7
  none_is (inl h) none = h.has_status
  none_is (inr (c, was, r)) none = absurd cc

  on_file : (c : Command) → command_of words ≡ Some c → Ways c → status ≡ 4 → HasFailed s words status output
  on_file c was (inl lt) four = absurd (omega (arith, lt, four))
  on_file c was (inr (inl f)) four = (c, was, f)
  on_file c was (inr (inr h)) four = absurd (omega (arith, h.0, four))

  failed_is : Cause → status ≡ 4 → HasFailed s words status output
  failed_is (inl h) four = let seven = h.has_status in absurd (omega (arith, four, seven))
  failed_is (inr (c, was, r)) four = on_file c was ((command_one s c).small status output r) four

  -- no reply has the status of a failed sink or of running out of memory
  small_ways : (c : Command) → Ways c → (status ≤ 4) ⊎ (status ≡ 7)
  small_ways c (inl lt) = inl (omega (arith, lt))
  small_ways c (inr (inl f)) = let four = f.2.has_status in inl (omega (arith, four))
  small_ways c (inr (inr h)) = inr h.0

  small_is : Cause → (status ≤ 4) ⊎ (status ≡ 7)
  small_is (inl h) = inr h.has_status
  small_is (inr (c, was, r)) = small_ways c ((command_one s c).small status output r)

pub reply_is : (s : ShelfUse) (words : List (List ℕ)) (status : ℕ) (output : List ℕ) → Replies s words status output → IsReply s words status output
reply_is s words status output r = record {
  replies = r;
  failed = failed_is s words status output r.cause;
  no_command = none_is s words status output r.cause;
  refused_words = λ seven. (refused_is s words status output r.cause seven).0;
  refused_words_line = λ seven. (refused_is s words status output r.cause seven).1;
  counts = λ other. ⊎_elim (λ four. absurd (other four)) (λ e. e) r.counts;
}

-- ---- `check` agrees with `decide`

-- the file may contain a text whose question was decided
abbrev HasDecided : ShelfUse → List ℕ → ℕ → List ℕ → Type 0
HasDecided s file status output = (text : List ℕ) × MayContain (s.content file) text × ((q : ProblemParts) × Poses text q × IsDecided q status output)

no_two : (status : ℕ) → status ≡ 2 → (status ≡ 0) ⊎ (status ≡ 1) → ⊥
no_two status two (inl zero) = omega (arith, two, zero)
no_two status two (inr one) = omega (arith, two, one)

text_decided : (text : List ℕ) (status : ℕ) (output : List ℕ) → DecidesText text status output → (status ≡ 0) ⊎ (status ≡ 1) → (q : ProblemParts) × Poses text q × IsDecided q status output
text_decided text status output (inl r) small = absurd (no_two status r.0 small)
text_decided text status output (inr (f, reads, inl r)) small = absurd (no_two status r.0 small)
text_decided text status output (inr (f, reads, inr (a, is, d))) small = (a.problem, record { file = f; reads = reads; abstract = a; is_abstract = is; question = refl }, d)

file_decided : (s : ShelfUse) (file : List ℕ) (status : ℕ) (output : List ℕ) → OfFile s file DecideReply status output → (status ≡ 0) ⊎ (status ≡ 1) → HasDecided s file status output
file_decided s file status output (inl f) small = let four = f.has_status in absurd (⊎_elim (λ zero. omega (arith, four, zero)) (λ one. omega (arith, four, one)) small)
file_decided s file status output (inr (text, may, r)) small = (text, may, text_decided text status output r.replies small)

same_status : (q : ProblemParts) (status reply : ℕ) (output : List ℕ) → IsDecided q status output → CheckStatus output q reply → reply ≡ status
same_status q status reply output (inl h) checked = checked.equal.1 (h.1.cert, h.1.printed, answer_accepted q h.1.cert h.1.answer) ∙ sym h.0
same_status q status reply output (inr h) checked = checked.different.1 (h.1.string, h.1.printed, h.1.shortest.refutes) ∙ sym h.0

pub check_agrees : CheckAgrees
check_agrees s words file status output is r small again_words again other text later reply printed is_given again_is holds holds_other unfailed again_r =
    let h = file_decided s file status output (replied_to s words status output (decide file) is r.cause) small in
    let q = h.2.0 in
    let poses = subst (λ t. Poses t q) (held_same (s.content file) text h.0 is_given h.1) h.2.1 in
    let checked = of_both_given later again other HasProblem CheckReply reply printed text output holds holds_other (λ f. unfailed f.0) (λ f. unfailed f.0) (replied_to later again_words reply printed (check again other) again_is again_r.cause) in
    same_status q status reply output h.2.2 (checked.headline q poses).answers

-- ---- `outline` accepts the notes that it prints

-- the text asks a triple, and notes for it were printed
abbrev HasNoted : List ℕ → List ℕ → Type 0
HasNoted text output = (q : ProblemParts) × (t : TaskParts) × (poses : Poses text q) × HasTask poses.file q t × IsNoted q t output

text_noted : (text : List ℕ) (status : ℕ) (output : List ℕ) → OutlinesText text status output → status ≡ 0 → HasNoted text output
text_noted text status output (inl r) zero = absurd (omega (arith, r.0, zero))
text_noted text status output (inr (f, reads, inl r)) zero = absurd (omega (arith, r.0, zero))
text_noted text status output (inr (f, reads, inr (a, is, inl r))) zero = absurd (omega (arith, r.0, zero))
text_noted text status output (inr (f, reads, inr (a, is, inr (t, has, inl h)))) zero = (a.problem, t, record { file = f; reads = reads; abstract = a; is_abstract = is; question = refl }, has, h.1)
text_noted text status output (inr (f, reads, inr (a, is, inr (t, has, inr h)))) zero = absurd (omega (arith, h.0, zero))

file_noted : (s : ShelfUse) (file : List ℕ) (status : ℕ) (output : List ℕ) → OfFile s file OutlineReply status output → status ≡ 0 → (text : List ℕ) × MayContain (s.content file) text × HasNoted text output
file_noted s file status output (inl f) zero = let four = f.has_status in absurd (omega (arith, four, zero))
file_noted s file status output (inr (text, may, r)) zero = (text, may, text_noted text status output r.replies zero)

accepted : (text output : List ℕ) (reply : ℕ) (printed : List ℕ) → HasNoted text output → OutlineCheckReply text output reply printed → reply ≡ 0
accepted text output reply printed h checked =
    let noted = h.4 in
    (checked.headline h.0 h.2).accepted.1 (h.1, noted.notes, h.3, noted.printed, noted.follows)

pub notes_follow : NotesFollow
notes_follow s words file status output is r zero again_words again other text later reply printed is_given again_is holds holds_other unfailed again_r =
    let h = file_noted s file status output (replied_to s words status output (outline file) is r.cause) zero in
    let noted = subst (λ t. HasNoted t output) (held_same (s.content file) text h.0 is_given h.1) h.2 in
    accepted text output reply printed noted
    (of_both_given later again other PosesSomeTask OutlineCheckReply reply printed text output holds holds_other (λ f. unfailed f.0) (λ f. unfailed f.0) (replied_to later again_words reply printed (outline_check again other) again_is again_r.cause))

-- ---- a call

pub run_sent : (c : Call) (output : List ℕ) → Replies c.shelf c.words c.status output → Appends c.sink.had c.sink.has output → c.sink.now ≡ c.sink.before → IsRun c
run_sent c output r sent represents =
    let small : (c.status ≤ 4) ⊎ (c.status ≡ 7) = small_is c.shelf c.words c.status output r.cause in
    record {
      answered = λ _ _. (output, reply_is c.shelf c.words c.status output r, sent, represents);
      unsent = λ five. absurd (no_five c.status small five);
      no_memory = λ six. absurd (no_six c.status small six);
    }
  where
    no_five : (status : ℕ) → (status ≤ 4) ⊎ (status ≡ 7) → status ≡ 5 → ⊥
    no_five status (inl le) e = omega (arith, le, e)
    no_five status (inr s) e = omega (arith, s, e)

    no_six : (status : ℕ) → (status ≤ 4) ⊎ (status ≡ 7) → status ≡ 6 → ⊥
    no_six status (inl le) e = omega (arith, le, e)
    no_six status (inr s) e = omega (arith, s, e)

pub run_unsent : (c : Call) (status : ℕ) (output : List ℕ) → c.status ≡ 5 → FaultCounted c.sink.before c.sink.now → Replies c.shelf c.words status output → AppendsPrefix c.sink.had c.sink.has output → IsRun c
run_unsent c status output five rose r front = record {
  answered = λ other _. absurd (other five);
  unsent = λ _. (rose, (status, output, reply_is c.shelf c.words status output r, front));
  no_memory = λ six. absurd (omega (arith, five, six));
}

-- ---- no two statuses have a cause

pub causes_exclude : CausesExclude
causes_exclude s words status other output printed unfailed given x y = once x.cause
  where
    once : HasNoCommand words status output ⊎ ((c : Command) × (command_of words ≡ Some c) × RepliesTo s c status output) → status ≡ other
    once (inl h) = h.has_status ∙ sym (none_is s words other printed y.cause h.none)
    once (inr (c, is, r)) = (command_one s c).once unfailed given status other output printed r (replied_to s words other printed c is y.cause)
