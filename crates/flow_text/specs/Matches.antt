-- Matches of blocks of the two graphs of a goal, as a file gives them.
use Rattle.std.specs.Prelude.{ℕ, List, Bool, Option}
use Rattle.flow_model.specs.Matches.{Match}
use Rattle.flow_text.specs.declared.match_names.MatchPart.{MatchPart}

-- A variable that a part of a match names: an equation sets it there, or its value is read. `at` is the place of the name.
pub record MatchName : Type 0 where
  pub variable : ℕ
  pub part : MatchPart
  pub is_set : Bool
  pub at : ℕ

-- A match, and what is said of the question of its blocks: the rounds, if they are given, and whether paths are split.
-- `at` is the place of the keyword of the item, and `names` are the variables that it names, in the order of the text.
pub record FileMatch : Type 0 where
  pub blocks : Match
  pub rounds : Option ℕ
  pub splits : Bool
  pub at : ℕ
  pub names : List MatchName
