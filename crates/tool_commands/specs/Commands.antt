-- The table of words: the lists of words that form a command.
use Rattle.std.specs.Prelude.{ℕ, ◌^◌, List, [], ◌∷◌, Option, None, Some, Bool, false, ◌&&◌, ◌==◌, not, if◌then◌else◌, codes}
use Rattle.std.specs.Option.{option_map}
use Rattle.std.specs.Str.{bytes_eq}
use Rattle.tool_commands.specs.declared.words.Command.{Command as Chosen}
use Rattle.tool_commands.specs.declared.words.Command.TheVariants.{Decide, DecideJson, Show, Batch, Check, Replay, Explain, Try, TryWith, Chain, Run, OneLoop, Bench, Optimise, Gkat, Flow, Outline, OutlineCheck}
use Rattle.tool_commands.specs.declared.words.TheConstants.{DEFAULT_STEPS}
use Rattle.tool_commands.specs.Numbers.{number_below, count_of}

-- a command and its words: the file of the problem or of several goals, and the file of the evidence, the proof or the
-- notes; or a number of turns, with evidence or without; or a program of the file, with the word of a store and a number
-- of turns; or a number of problems
pub data Command : Type 0 where
  decide : (file : List ℕ) → Command
  decide_json : (file : List ℕ) → Command
  show : (file : List ℕ) → Command
  gkat : (file : List ℕ) → Command
  flow : (file : List ℕ) → Command
  batch : (file : List ℕ) → Command
  check : (file evidence : List ℕ) → Command
  replay : (file evidence : List ℕ) → Command
  explain : (file evidence : List ℕ) → Command
  try_goal : (file : List ℕ) → (turns : ℕ) → Command
  try_with : (file : List ℕ) → (turns : ℕ) → (evidence : List ℕ) → Command
  outline : (file : List ℕ) → Command
  outline_check : (file notes : List ℕ) → Command
  chain : (file proof : List ℕ) → Command
  run : (file prog store : List ℕ) → (turns : ℕ) → Command
  oneloop : (file prog : List ℕ) → Command
  bench : (count : ℕ) → Command
  optimise : (file prog : List ℕ) → (turns : ℕ) → Command

-- a command of the code, without the addresses of its words
abbrev pub command_seen : Chosen → Command
command_seen (Decide file) = decide file.now
command_seen (DecideJson file) = decide_json file.now
command_seen (Show file) = show file.now
command_seen (Gkat file) = gkat file.now
command_seen (Flow file) = flow file.now
command_seen (Batch file) = batch file.now
command_seen (Check file evidence) = check file.now evidence.now
command_seen (Replay file evidence) = replay file.now evidence.now
command_seen (Explain file evidence) = explain file.now evidence.now
command_seen (Try file turns) = try_goal file.now turns
command_seen (TryWith file turns evidence) = try_with file.now turns evidence.now
command_seen (Outline file) = outline file.now
command_seen (OutlineCheck file notes) = outline_check file.now notes.now
command_seen (Chain file proof) = chain file.now proof.now
command_seen (Run file prog store turns) = run file.now prog.now store.now turns
command_seen (OneLoop file prog) = oneloop file.now prog.now
command_seen (Bench count) = bench count.number
command_seen (Optimise file prog turns) = optimise file.now prog.now turns

-- a word that is not empty and does not begin with a dash
abbrev pub is_value : List ℕ → Bool
is_value [] = false
is_value (b ∷ bs) = not (b == 45)

-- the commands by the words after the name: a file or a number; a file and an option; a file and its evidence, proof,
-- notes, program or turns; a file, turns and evidence; a file, a program, a store and turns; a file, a program, an option
-- and its number
unfoldable pub with_file : List ℕ → List ℕ → Option Command
with_file name file =
    if bytes_eq name (codes "decide") then Some (decide file)
    else if bytes_eq name (codes "show") then Some (show file)
    else if bytes_eq name (codes "gkat") then Some (gkat file)
    else if bytes_eq name (codes "flow") then Some (flow file)
    else if bytes_eq name (codes "batch") then Some (batch file)
    else if bytes_eq name (codes "outline") then Some (outline file)
    else if bytes_eq name (codes "bench") then option_map (λ n. bench n) (count_of file)
    else None

unfoldable pub with_option : List ℕ → List ℕ → List ℕ → Option Command
with_option name file option = if bytes_eq name (codes "decide") && bytes_eq option (codes "--json") then Some (decide_json file) else None

unfoldable pub with_value : List ℕ → List ℕ → List ℕ → Option Command
with_value name file value =
    if bytes_eq name (codes "check") then Some (check file value)
    else if bytes_eq name (codes "replay") then Some (replay file value)
    else if bytes_eq name (codes "explain") then Some (explain file value)
    else if bytes_eq name (codes "try") then option_map (λ n. try_goal file n) (number_below (2 ^ 64) value)
    else if bytes_eq name (codes "chain") then Some (chain file value)
    else if bytes_eq name (codes "outline") then Some (outline_check file value)
    else if bytes_eq name (codes "oneloop") then Some (oneloop file value)
    else if bytes_eq name (codes "optimise") then Some (optimise file value DEFAULT_STEPS)
    else None

unfoldable pub with_evidence : List ℕ → List ℕ → List ℕ → List ℕ → Option Command
with_evidence name file turns evidence = if bytes_eq name (codes "try") then option_map (λ n. try_with file n evidence) (number_below (2 ^ 64) turns) else None

unfoldable pub with_turns : List ℕ → List ℕ → List ℕ → List ℕ → List ℕ → Option Command
with_turns name file prog store turns = if bytes_eq name (codes "run") then option_map (λ n. run file prog store n) (number_below (2 ^ 64) turns) else None

unfoldable pub with_limit : List ℕ → List ℕ → List ℕ → List ℕ → List ℕ → Option Command
with_limit name file prog option turns =
    if bytes_eq name (codes "optimise") && bytes_eq option (codes "--turns") then option_map (λ n. optimise file prog n) (number_below (2 ^ 64) turns) else None

-- the command of a list of words, from the table
abbrev pub command_of : List (List ℕ) → Option Command
command_of (name ∷ file ∷ []) = if is_value file then with_file name file else None
command_of (name ∷ file ∷ last ∷ []) = if is_value file then (if is_value last then with_value name file last else with_option name file last) else None
command_of (name ∷ file ∷ turns ∷ evidence ∷ []) = if is_value file && is_value evidence then with_evidence name file turns evidence else None
command_of (name ∷ file ∷ prog ∷ next ∷ turns ∷ []) =
    if is_value file && is_value prog then (if is_value next then with_turns name file prog next turns else with_limit name file prog next turns) else None
command_of words = None

-- the files of a command
abbrev pub files_of : Command → List (List ℕ)
files_of (decide file) = file ∷ []
files_of (decide_json file) = file ∷ []
files_of (show file) = file ∷ []
files_of (gkat file) = file ∷ []
files_of (flow file) = file ∷ []
files_of (batch file) = file ∷ []
files_of (check file evidence) = file ∷ evidence ∷ []
files_of (replay file evidence) = file ∷ evidence ∷ []
files_of (explain file evidence) = file ∷ evidence ∷ []
files_of (try_goal file turns) = file ∷ []
files_of (try_with file turns evidence) = file ∷ evidence ∷ []
files_of (outline file) = file ∷ []
files_of (outline_check file notes) = file ∷ notes ∷ []
files_of (chain file proof) = file ∷ proof ∷ []
files_of (run file prog store turns) = file ∷ []
files_of (oneloop file prog) = file ∷ []
files_of (bench count) = []
files_of (optimise file prog turns) = file ∷ []
