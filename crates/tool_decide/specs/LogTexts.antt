-- How `optimise` prints the steps that it made and how it ended.
use Rattle.std.specs.Prelude.{ℕ, List, [], ◌∷◌, ◌++◌, codes}
use Rattle.std.specs.Fmt.{decimal}
use Rattle.text_parser.specs.ScopeParts.{ScopeParts}
use Rattle.text_print.specs.Printing.{name_of}
use Rattle.while_lang.specs.Programs.{ProgTree}
use Rattle.problem_file.specs.ProgramTexts.{prog_text}
use Rattle.kat_report.specs.Paths.{path_text}
use Rattle.optimiser_steps.specs.Logs.{LogLineParts}
use Rattle.optimiser_steps.specs.declared.optimising.Ended.{Ended}
use Rattle.optimiser_steps.specs.declared.optimising.Ended.TheVariants.{Done, TurnLimit}

-- `SN at PATH` for each step, a line each
abbrev pub step_line : LogLineParts → List ℕ
step_line l = codes "S" ++ decimal l.step ++ codes " at " ++ path_text l.path ++ codes "\n"

abbrev pub log_text : List LogLineParts → List ℕ
log_text [] = []
log_text (l ∷ ls) = step_line l ++ log_text ls

abbrev pub end_line : Ended → List ℕ
end_line Done = codes "done\n"
end_line TurnLimit = codes "turn limit\n"

-- the steps, how they ended, and the resulting program under its name
abbrev pub optimised_text : ScopeParts → List ℕ → List LogLineParts → Ended → ProgTree → List ℕ
optimised_text w name log ended p = log_text log ++ end_line ended ++ prog_text (name_of w) name p
