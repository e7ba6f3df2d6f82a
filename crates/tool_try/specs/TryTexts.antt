-- The lines of `try`.
use Rattle.std.specs.Prelude.{ℕ, ◌+◌, List, [], ◌∷◌, ◌++◌, codes, nat_eq, if◌then◌else◌}
use Rattle.std.specs.Fmt.{decimal}
use Rattle.kat_model.specs.Stores.{Store}
use Rattle.text_parser.specs.declared.meaning.Meaning.TheVariants.{Var}
use Rattle.text_parser.specs.ScopeParts.{ScopeParts}
use Rattle.text_print.specs.Printing.{name_of}
use Rattle.kat_report.specs.RunTexts.{outcome_line}
use Rattle.store_trials.specs.RunEnds.{EndParts}
use Rattle.store_trials.specs.declared.trials.Trial.{Trial}
use Rattle.store_trials.specs.declared.trials.Trial.TheVariants.{Fails, NoneFails}

-- the value of variable `k` as an item `NAME=NUMBER`, with a comma before it unless it is the first
abbrev pub comma_text : ℕ → List ℕ
comma_text k = if nat_eq k 0 then [] else codes ","

abbrev pub item_text : ScopeParts → ℕ → ℕ → List ℕ
item_text w k v = comma_text k ++ name_of w (Var k) ++ codes "=" ++ decimal v

-- the values of the variables from `k` on
abbrev pub items_text : ScopeParts → ℕ → List ℕ → List ℕ
items_text w k [] = []
items_text w k (v ∷ vs) = item_text w k v ++ items_text w (k + 1) vs

-- a store as the word of a store
abbrev pub store_text : ScopeParts → Store → List ℕ
store_text w [] = codes "zero"
store_text w (v ∷ vs) = items_text w 0 (v ∷ vs)

-- the ends of runs, a line for each
abbrev pub ends_text : ScopeParts → List EndParts → List ℕ
ends_text w [] = []
ends_text w (e ∷ es) = outcome_line w e.outcome e.store ++ ends_text w es

-- the store from which the goal is false and the ends of the runs, or how many stores were tried and how many runs were
-- cut short
abbrev pub trial_text : ScopeParts → ℕ → Trial → List ℕ
trial_text w stores (Fails s ends) = store_text w s ++ codes "\n" ++ ends_text w ends
trial_text w stores (NoneFails cut) = codes "stores tried " ++ decimal stores ++ codes ", runs cut short " ++ decimal cut ++ codes "\n"

-- the status
abbrev pub trial_status : Trial → ℕ
trial_status (Fails s ends) = 1
trial_status (NoneFails cut) = 0

-- the line for a file that is not concrete
abbrev pub not_concrete_line : List ℕ
not_concrete_line = codes "refused: NotConcrete\n"
