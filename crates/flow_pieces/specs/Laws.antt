-- The law of pieces.
use Rattle.std.specs.Prelude.{◌≡◌, ◌⊎◌, ◌+◌, ◌<◌, true, List, length}
use Rattle.kat_model.specs.Stores.{modulus}
use Rattle.kat_model.specs.declared.expression.Width.TheVariants.{W32}
use Rattle.kat_model.specs.Members.{Has}
use Rattle.flow_model.specs.Graphs.{Pair}
use Rattle.flow_model.specs.Agreement.{AgreeAlways}
use Rattle.flow_model.specs.Matches.{Match}
use Rattle.flow_pieces.specs.Matches.{entry_match}
use Rattle.flow_ways.specs.Sorted.{IsSortedGraph}
use Rattle.flow_pieces.specs.Pieces.{PieceHolds}
use Rattle.flow_pieces.specs.PieceGraphs.{piece_pair}
use Rattle.flow_pieces.specs.PieceQuestions.{IsProper, IsAgreed, HasSameText}
use Rattle.flow_pieces.specs.Exits.{piece_exits}
use Rattle.flow_pieces.specs.SameTexts.{has_same_text}

-- where the entries are matched and all pieces hold, the graphs always return the same
abbrev pub PiecesAreEnough : Type 0
PiecesAreEnough = (p : Pair) (ms : List Match) → Has ms entry_match → ((m : Match) → Has ms m → PieceHolds p ms m) → AgreeAlways p

-- where the entries are matched, and each piece has the same text or graphs that agree, the graphs always return the same
abbrev pub AgreedPiecesAreEnough : Type 0
AgreedPiecesAreEnough =
    (p : Pair) (ms : List Match) → IsSortedGraph p.sorts p.before → IsSortedGraph p.sorts p.after → Has ms entry_match →
    ((m : Match) → Has ms m → IsProper p m × (IsAgreed p ms m ⊎ HasSameText p ms m)) → AgreeAlways p

-- The graphs of a file with matches agree: where the entries are matched, each match is proper, and each piece has the same
-- text, or graphs that agree with the exits that the matches give.
abbrev pub MatchedGraphsAgree : Type 0
MatchedGraphsAgree =
    (p : Pair) (ms : List Match) → IsSortedGraph p.sorts p.before → IsSortedGraph p.sorts p.after → Has ms entry_match → length ms + 3 < modulus W32 →
    ((m : Match) → Has ms m → IsProper p m × ((has_same_text p ms m ≡ true) ⊎ AgreeAlways (piece_pair p ms m (piece_exits p ms m)))) → AgreeAlways p
