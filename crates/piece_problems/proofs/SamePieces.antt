-- Graphs all of whose pieces hold always return the same.
use Rattle.std.proofs.Common.{◌≡◌, ◌⊎◌, inl, inr, true, List}
use Rattle.kat_model.specs.Members.{Has}
use Rattle.flow_model.specs.Graphs.{Pair}
use Rattle.flow_model.specs.Agreement.{AgreeAlways}
use Rattle.flow_model.specs.Matches.{Match}
use Rattle.flow_ways.specs.Sorted.{IsSortedGraph}
use Rattle.flow_problem.proofs.Agreements.{same_agree}
use Rattle.flow_problem.proofs.PlacedGraphs.{flow_is_about}
use Rattle.flow_pieces.specs.PieceGraphs.{piece_pair}
use Rattle.flow_pieces.specs.PieceQuestions.{IsProper}
use Rattle.flow_pieces.specs.Exits.{piece_exits}
use Rattle.flow_pieces.specs.SameTexts.{has_same_text}
use Rattle.flow_pieces.proofs.MatchedGraphs.{matched_enough}
use Rattle.piece_problems.specs.Questions.{AskedMatch, piece_question, IsSamePiece}
use Rattle.piece_problems.specs.Laws.{Holds, SamePiecesAgree}
use Rattle.piece_problems.proofs.SortedPieces.{piece_sorted}

module _ (p : Pair) (ms : List Match) (first : IsSortedGraph p.sorts p.before) (second : IsSortedGraph p.sorts p.after) (proper : (m : Match) → Has ms m → IsProper p m) where
  -- a piece whose problem has the same sides has graphs that agree
  piece_agrees : (a : AskedMatch) → Has ms a.match → IsSamePiece p ms a → (has_same_text p ms a.match ≡ true) ⊎ AgreeAlways (piece_pair p ms a.match (piece_exits p ms a.match))
  piece_agrees a member (inl text) = inl text
  piece_agrees a member (inr (r, has, same)) =
      inr (same_agree (piece_pair p ms a.match (piece_exits p ms a.match)) r (flow_is_about (piece_question p ms a) r (piece_sorted p first second ms proper a.match member) has.problem) same)

  holding_agrees : (m : Match) → Has ms m → Holds p ms m → (has_same_text p ms m ≡ true) ⊎ AgreeAlways (piece_pair p ms m (piece_exits p ms m))
  holding_agrees m member (rounds, splits, holds) = piece_agrees (record { match = m; rounds = rounds; splits = splits }) member holds

pub pieces_agree : SamePiecesAgree
pieces_agree p ms first second entry few pieces =
    matched_enough p ms first second entry few
    (λ m member. ((pieces m member).0, holding_agrees p ms first second (λ d h. (pieces d h).0) m member (pieces m member).1))
