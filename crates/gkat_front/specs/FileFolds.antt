-- The state of actions after items, in text order, or the first fault.
use Rattle.std.specs.Prelude.{List, [], ◌∷◌, Result, Ok}
use Rattle.text_parser.specs.declared.fault.TextFault.{TextFault}
use Rattle.text_parser.specs.Parsed.{◌>>=◌}
use Rattle.problem_file.specs.Folds.{fold_names}
use Rattle.gkat_front.specs.GkatPhrases.{expr, GkatPhrase}
use Rattle.gkat_front.specs.GkatFolds.{gkat_of}
use Rattle.gkat_front.specs.FileActions.{FileActions}
use Rattle.gkat_front.specs.FilePhrases.{GkatItem, tests, actions, equal}
use Rattle.gkat_front.specs.Files.{GkatFileParts, GkatState, start, file_of}
use Rattle.gkat_front.specs.Making.{making}

-- the value of an expression in the state after the items so far
abbrev pub ExprFold : Type 0 → Type 0 → Type 0
ExprFold S V = S → GkatPhrase expr → Result V TextFault

abbrev pub fold_item : {S V : Type 0} → FileActions S V → ExprFold S V → S → GkatItem → Result S TextFault
fold_item g x s (tests keyword ns end) = fold_names g.declare_test s ns
fold_item g x s (actions keyword ns end) = fold_names g.declare_action s ns
fold_item g x s (equal keyword p comma q end) = g.begin_equal s keyword.at >>= λ u. x s p >>= λ v. x s q >>= λ w. g.pose s keyword.at v w

abbrev pub fold_items : {S V : Type 0} → FileActions S V → ExprFold S V → S → List GkatItem → Result S TextFault
fold_items g x s [] = Ok s
fold_items g x s (i ∷ is) = fold_item g x s i >>= λ t. fold_items g x t is

-- the state after further items
abbrev pub made_by : GkatState → List GkatItem → Result GkatState TextFault
made_by s items = fold_items making (λ t p. gkat_of t.world p) s items

-- the file of the items of a text, or the first fault of its names, counts and sizes
abbrev pub file_made : List GkatItem → Result GkatFileParts TextFault
file_made items = made_by start items >>= file_of
