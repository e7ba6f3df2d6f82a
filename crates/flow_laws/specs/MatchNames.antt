-- What the names of a match say of its equations and of its condition.
use Rattle.std.specs.Prelude.{◌≡◌, ℕ, Bool, true, false, not, ◌&&◌, nat_eq}
use Rattle.std.specs.List.{list_any}
use Rattle.flow_ways.specs.Liveness.{cond_reads}
use Rattle.flow_pieces.specs.Matches.{gives, equations_read}
use Rattle.flow_text.specs.declared.match_names.MatchPart.{MatchPart}
use Rattle.flow_text.specs.declared.match_names.MatchPart.TheVariants.{Where, Back, Keeping, If}
use Rattle.flow_text.specs.Matches.{MatchName, FileMatch}

abbrev pub is_same_part : MatchPart → MatchPart → Bool
is_same_part Where Where = true
is_same_part Back Back = true
is_same_part Keeping Keeping = true
is_same_part If If = true
is_same_part _ _ = false

-- whether the name is in the part and sets the variable, or reads it
abbrev pub is_set_in : MatchPart → ℕ → MatchName → Bool
is_set_in part x n = n.is_set && (is_same_part n.part part && nat_eq n.variable x)

abbrev pub is_read_in : MatchPart → ℕ → MatchName → Bool
is_read_in part x n = not n.is_set && (is_same_part n.part part && nat_eq n.variable x)

-- Some name of a part sets a variable exactly if an equation of the part gives it, and some name reads it exactly if an
-- expression of the part or the condition does.
pub record NamesAreRead (m : FileMatch) (x : ℕ) : Type 0 where
  pub where_sets : list_any (is_set_in Where x) m.names ≡ gives m.blocks.forth x
  pub where_reads : list_any (is_read_in Where x) m.names ≡ equations_read m.blocks.forth x
  pub back_sets : list_any (is_set_in Back x) m.names ≡ gives m.blocks.back x
  pub back_reads : list_any (is_read_in Back x) m.names ≡ equations_read m.blocks.back x
  pub keeping_sets : list_any (is_set_in Keeping x) m.names ≡ gives m.blocks.keeping x
  pub keeping_reads : list_any (is_read_in Keeping x) m.names ≡ equations_read m.blocks.keeping x
  pub condition_sets : list_any (is_set_in If x) m.names ≡ false
  pub condition_reads : list_any (is_read_in If x) m.names ≡ cond_reads x m.blocks.condition
