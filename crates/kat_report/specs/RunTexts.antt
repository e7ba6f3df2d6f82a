-- The line of the outcome of a run.
use Rattle.std.specs.Prelude.{ℕ, ◌+◌, List, [], ◌∷◌, ◌++◌, codes}
use Rattle.std.specs.Fmt.{decimal}
use Rattle.kat_model.specs.Stores.{Store}
use Rattle.text_parser.specs.declared.meaning.Meaning.TheVariants.{Var}
use Rattle.text_parser.specs.ScopeParts.{ScopeParts}
use Rattle.text_print.specs.Printing.{name_of}
use Rattle.while_lang.specs.declared.outcome.Outcome.{Outcome}
use Rattle.while_lang.specs.declared.outcome.Outcome.TheVariants.{Done, Stuck, More}

-- ` NAME=VALUE` for each of the values, which are those of the variables from `k` on
abbrev pub values_text : ScopeParts → ℕ → List ℕ → List ℕ
values_text w k [] = []
values_text w k (v ∷ vs) = codes " " ++ name_of w (Var k) ++ codes "=" ++ decimal v ++ values_text w (k + 1) vs

-- the line of a run that cannot continue, and of one that has no turn left
abbrev pub stuck_line : List ℕ
stuck_line = codes "stuck\n"

abbrev pub more_line : List ℕ
more_line = codes "more\n"

-- `done` and the store, or one of these lines
abbrev pub outcome_line : ScopeParts → Outcome → Store → List ℕ
outcome_line w Done s = codes "done" ++ values_text w 0 s ++ codes "\n"
outcome_line w Stuck s = stuck_line
outcome_line w More s = more_line
