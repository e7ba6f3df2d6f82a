-- The piece of a match, and when it is refused.
use Rattle.std.specs.Prelude.{◌≡◌, ◌<◌, ℕ, true, false, List, Some, slice_get}
use Rattle.flow_model.specs.Graphs.{Pair}
use Rattle.flow_model.specs.Polish.{graph_of}
use Rattle.flow_model.specs.Matches.{Match}
use Rattle.flow_model.specs.WholeGraphs.{are_whole_blocks}
use Rattle.flow_pieces.specs.PieceGraphs.{Exit, piece_pair}
use Rattle.flow_pieces.specs.Exits.{piece_exits, share_column, is_ambiguous}
use Rattle.flow_pieces.specs.SameTexts.{has_same_text}
use Rattle.flow_matches.specs.declared.piece.Piece.{Piece}
use Rattle.flow_matches.specs.declared.piece.Piece.TheVariants.{SameText, Graphs}
use Rattle.flow_matches.specs.declared.fault.MatchFault.{MatchFault}
use Rattle.flow_matches.specs.declared.fault.MatchFault.TheVariants.{NoMemory, Ambiguous}

-- A piece has the same text, or its two graphs, which no ambiguous exits have.
abbrev pub IsPieceOf : Pair → List Match → Match → Piece → Type 0
IsPieceOf p ms m SameText = has_same_text p ms m ≡ true
IsPieceOf p ms m (Graphs before after) =
    (has_same_text p ms m ≡ false) × (is_ambiguous (piece_exits p ms m) ≡ false)
    × (record { sorts = p.sorts; before = graph_of before.items; after = graph_of after.items } ≡ piece_pair p ms m (piece_exits p ms m))

-- each expression and each condition of the graphs is one tree
abbrev pub IsWholePiece : Piece → Type 0
IsWholePiece SameText = Unit {0}
IsWholePiece (Graphs before after) = (are_whole_blocks before.items ≡ true) × (are_whole_blocks after.items ≡ true)

-- two exits of a list share a column, and are those of matches of these numbers
pub record ShareColumn (ms : List Match) (exits : List Exit) (i j : ℕ) : Type 0 where
  pub first : ℕ
  pub second : ℕ
  pub one : Exit
  pub other : Exit
  pub in_order : first < second
  pub exit_first : slice_get exits first ≡ Some one
  pub exit_second : slice_get exits second ≡ Some other
  pub share : share_column one other ≡ true
  pub match_first : slice_get ms i ≡ Some one.match
  pub match_second : slice_get ms j ≡ Some other.match

-- A match has no piece where the text is not the same and two of its exits share a column.
abbrev pub IsRefusalOf : Pair → List Match → Match → MatchFault → Type 0
IsRefusalOf p ms m NoMemory = Unit {0}
IsRefusalOf p ms m (Ambiguous i j) =
    (has_same_text p ms m ≡ false) × (is_ambiguous (piece_exits p ms m) ≡ true) × ShareColumn ms (piece_exits p ms m) i j
