-- What the tables say that the pieces of all matches need.
use Rattle.std.specs.Prelude.{◌≡◌, ◌<◌, ℕ, Bool, false, List, length, map, slice_index_or}
use Rattle.kat_model.specs.Members.{Has}
use Rattle.flow_model.specs.declared.sort.Sort.{Sort}
use Rattle.flow_model.specs.declared.graph.Block.{Block as ABlock}
use Rattle.flow_model.specs.Polish.{graph_of}
use Rattle.flow_places.specs.Live.{live}
use Rattle.flow_places.specs.Tables.{noted}
use Rattle.flow_pieces.specs.Pieces.{is_matched_before, is_matched_after}
use Rattle.flow_model.specs.declared.block_match.BlockMatch.{BlockMatch}
use Rattle.flow_matches.specs.declared.tables.MatchTables.{MatchTables}
use Rattle.flow_model.specs.Matches.{matches_of}

-- the list has a mark at each number that passes the test, and at no other
abbrev pub AreMarks : List Bool → (ℕ → Bool) → Type 0
AreMarks marks test = (k : ℕ) → slice_index_or marks k false ≡ test k

-- the matched blocks of both graphs are marked
pub record AreMarked (tables : MatchTables) (ms : List BlockMatch) : Type 0 where
  pub before : AreMarks tables.stops_before.items (is_matched_before (matches_of ms))
  pub after : AreMarks tables.stops_after.items (is_matched_after (matches_of ms))

-- the matched blocks are marked, and the variables that are live at each block
pub record AreTables (tables : MatchTables) (sorts : List Sort) (before after : List ABlock) (ms : List BlockMatch) : Type 0 where
  pub marked : AreMarked tables ms
  pub live_before : (k x : ℕ) → x < length sorts → noted tables.live_before.items x k ≡ live (graph_of before) k x
  pub live_after : (k x : ℕ) → x < length sorts → noted tables.live_after.items x k ≡ live (graph_of after) k x

-- each of the numbers is less than n
abbrev pub AreBelow : ℕ → List ℕ → Type 0
AreBelow n ks = (k : ℕ) → Has ks k → k < n

abbrev pub blocks_before : List BlockMatch → List ℕ
blocks_before ms = map (λ m. m.before) ms

abbrev pub blocks_after : List BlockMatch → List ℕ
blocks_after ms = map (λ m. m.after) ms

-- each match is of blocks that there are
pub record AreInside (before after : List ABlock) (ms : List BlockMatch) : Type 0 where
  pub first : AreBelow (length before) (blocks_before ms)
  pub second : AreBelow (length after) (blocks_after ms)
