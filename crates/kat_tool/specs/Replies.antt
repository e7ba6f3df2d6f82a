-- The replies of the top call to words.
use Rattle.std.specs.Prelude.{◌≡◌, ◌⊎◌, ℕ, List, None, Some}
use Rattle.tool_commands.specs.Commands.{Command, decide, decide_json, show, gkat, flow, batch, check, replay, explain, try_goal, try_with, outline, outline_check, chain, run, oneloop, bench, optimise, command_of}
use Rattle.tool_inputs.specs.Contents.{MayContain}
use Rattle.tool_inputs.specs.FileProblem.{HasProblem}
use Rattle.tool_inputs.specs.Steps.{ShelfUse, ReplySpec}
use Rattle.tool_inputs.specs.FileReplies.{OfFile, OfTwoFiles}
use Rattle.tool_decide.specs.Decide.{DecideReply}
use Rattle.tool_decide.specs.DecideJson.{DecideJsonReply}
use Rattle.tool_decide.specs.Batch.{BatchReply}
use Rattle.tool_decide.specs.Bench.{BenchReply}
use Rattle.tool_check.specs.Check.{CheckReply}
use Rattle.tool_check.specs.Replay.{ReplayReply}
use Rattle.tool_check.specs.Chain.{ChainReply}
use Rattle.tool_explain.specs.Explain.{ExplainReply}
use Rattle.tool_try.specs.Try.{TryReply}
use Rattle.tool_try.specs.Questions.{HasConcrete}
use Rattle.tool_try.specs.TryWith.{TryWithReply}
use Rattle.tool_decide.specs.Triples.{PosesSomeTask}
use Rattle.tool_decide.specs.Outline.{OutlineReply}
use Rattle.tool_decide.specs.OutlineCheck.{OutlineCheckReply}
use Rattle.tool_flow.specs.Flow.{FlowReply}
use Rattle.tool_programs.specs.Show.{ShowReply}
use Rattle.tool_programs.specs.Gkat.{GkatReply}
use Rattle.tool_programs.specs.Running.{DoesNotFit, RunReply}
use Rattle.tool_programs.specs.OneLoop.{LacksProgram, OneLoopReply}
use Rattle.tool_decide.specs.Optimise.{LacksAnyProgram, OptimiseReply}
use Rattle.kat_report.specs.InputLines.{words_line}

-- the reply to a command
abbrev pub RepliesTo : ShelfUse → Command → ReplySpec
RepliesTo s (decide file) = OfFile s file DecideReply
RepliesTo s (decide_json file) = OfFile s file DecideJsonReply
RepliesTo s (show file) = OfFile s file ShowReply
RepliesTo s (gkat file) = OfFile s file GkatReply
RepliesTo s (flow file) = OfFile s file FlowReply
RepliesTo s (batch file) = OfFile s file BatchReply
RepliesTo s (check file evidence) = OfTwoFiles s file evidence HasProblem CheckReply
RepliesTo s (replay file evidence) = OfTwoFiles s file evidence HasProblem ReplayReply
RepliesTo s (explain file evidence) = OfTwoFiles s file evidence HasProblem ExplainReply
RepliesTo s (try_goal file turns) = OfFile s file (λ text. TryReply text turns)
RepliesTo s (try_with file turns evidence) = OfTwoFiles s file evidence HasConcrete (TryWithReply turns)
RepliesTo s (outline file) = OfFile s file OutlineReply
RepliesTo s (outline_check file notes) = OfTwoFiles s file notes PosesSomeTask OutlineCheckReply
RepliesTo s (chain file proof) = OfTwoFiles s file proof HasProblem ChainReply
RepliesTo s (run file prog store turns) = OfFile s file (λ text. RunReply text prog store turns)
RepliesTo s (oneloop file prog) = OfFile s file (λ text. OneLoopReply text prog)
RepliesTo s (bench count) = BenchReply count
RepliesTo s (optimise file prog turns) = OfFile s file (λ text. OptimiseReply text prog turns)

-- the file of the command may contain a text that its words do not fit
abbrev pub MayNotFit : ShelfUse → Command → Type 0
MayNotFit s (run file prog store turns) = (text : List ℕ) × MayContain (s.content file) text × DoesNotFit text prog store
MayNotFit s (oneloop file prog) = (text : List ℕ) × MayContain (s.content file) text × LacksProgram text prog
MayNotFit s (optimise file prog turns) = (text : List ℕ) × MayContain (s.content file) text × LacksAnyProgram text prog
MayNotFit s command = ⊥

-- the words have no command
pub record HasNoCommand (words : List (List ℕ)) (status : ℕ) (output : List ℕ) : Type 0 where
  pub none : command_of words ≡ None
  pub has_status : status ≡ 7
  pub printed : output ≡ words_line

-- the shelf's count of faults is unchanged, unless the status reports that the shelf failed
abbrev pub KeepsCount : ShelfUse → ℕ → Type 0
KeepsCount s status = (status ≡ 4) ⊎ (s.now ≡ s.before)

-- the reply to words
pub record Replies (s : ShelfUse) (words : List (List ℕ)) (status : ℕ) (output : List ℕ) : Type 0 where
  pub counts : KeepsCount s status
  pub cause : HasNoCommand words status output ⊎ ((command : Command) × (command_of words ≡ Some command) × RepliesTo s command status output)
