-- The actions on the parts of an item during reading. An action may refuse a part; every other error in an item is an
-- error of syntax.
use Rattle.std.specs.Prelude.{ℕ, List, Result, Option}
use Rattle.text_parser.specs.declared.fault.TextFault.{TextFault}
use Rattle.text_parser.specs.Lexemes.{Lexeme}
use Rattle.text_parser.specs.Actions.{Actions}
use Rattle.while_lang.specs.BlockActions.{BlockActions}
use Rattle.problem_file.specs.declared.item_reading.Declared.{Declared}
use Rattle.problem_file.specs.declared.item_reading.Setting.{Setting}
use Rattle.problem_file.specs.declared.item_reading.Comparison.{Comparison}

-- the measure of a phrase, and the tokens from its start
pub record Measurement (X : Type 0) : Type 0 where
  pub measure : X
  pub tokens : List Lexeme

-- the measurements of the sides of a goal
pub record SidesMeasurement (X : Type 0) : Type 0 where
  pub left : Measurement X
  pub right : Measurement X

-- the measurements of the phrases of a triple
pub record TripleMeasurement (X : Type 0) : Type 0 where
  pub pre : Measurement X
  pub body : Measurement X
  pub post : Measurement X

-- S is the state that the items so far have made, X is the measure of a phrase. A number argument is the place of the
-- name that is declared or defined, or of the number that is set, and otherwise of the keyword of the item. The number
-- that is set is the last argument.
pub record ItemActions (S X : Type 0) : Type 0 where
  pub phrases : S → Actions X X X X X
  pub blocks : S → BlockActions X X X X X X
  pub program : S → List ℕ → Option X
  pub declare : Declared → S → ℕ → List ℕ → Result S TextFault
  pub check_new : S → ℕ → List ℕ → Result (Unit {0}) TextFault
  pub define : S → ℕ → List ℕ → Measurement X → Result S TextFault
  pub define_prog : S → ℕ → List ℕ → Measurement X → Result S TextFault
  pub begin_hyp : S → ℕ → Result (Unit {0}) TextFault
  pub state_zero : S → ℕ → Measurement X → Result S TextFault
  pub state_triple : S → ℕ → TripleMeasurement X → Result S TextFault
  pub begin_setting : Setting → S → ℕ → Result (Unit {0}) TextFault
  pub set : Setting → S → ℕ → ℕ → Result S TextFault
  pub begin_goal : S → ℕ → Result (Unit {0}) TextFault
  pub check_numbers : S → List Lexeme → Result (Unit {0}) TextFault
  pub pose_sides : Comparison → S → ℕ → SidesMeasurement X → Result S TextFault
  pub pose_triple : S → ℕ → TripleMeasurement X → Result S TextFault
