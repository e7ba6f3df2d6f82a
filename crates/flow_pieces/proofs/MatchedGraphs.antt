-- Graphs whose matches have pieces with the same text, or graphs that agree with the exits of the matches, always agree.
use Rattle.std.proofs.Common.{◌≡◌, ◌⊎◌, inl, inr, ◌+◌, ◌<◌, true, List, length, arith}
use Rattle.kat_model.specs.Members.{Has}
use Rattle.kat_model.specs.Stores.{modulus}
use Rattle.kat_model.specs.declared.expression.Width.TheVariants.{W32}
use Rattle.flow_model.specs.Graphs.{Pair}
use Rattle.flow_model.specs.Agreement.{AgreeAlways}
use Rattle.flow_ways.specs.Sorted.{IsSortedGraph}
use Rattle.flow_model.specs.Matches.{Match}
use Rattle.flow_pieces.specs.PieceGraphs.{piece_pair}
use Rattle.flow_pieces.specs.PieceQuestions.{IsAgreed, HasSameText}
use Rattle.flow_pieces.specs.Exits.{piece_exits}
use Rattle.flow_pieces.specs.SameTexts.{has_same_text}
use Rattle.flow_pieces.specs.Laws.{MatchedGraphsAgree}
use Rattle.flow_pieces.proofs.QuestionsEnough.{questions_enough}
use Rattle.flow_pieces.proofs.MatchedExits.{few_exits, exits_are}
use Rattle.flow_pieces.proofs.WalkedTexts.{text_is}

piece_of : (p : Pair) (ms : List Match) → IsSortedGraph p.sorts p.after → length ms + 3 < modulus W32 → (m : Match) → Has ms m →
    (has_same_text p ms m ≡ true) ⊎ AgreeAlways (piece_pair p ms m (piece_exits p ms m)) → IsAgreed p ms m ⊎ HasSameText p ms m
piece_of p ms sorted few m member (inl text) = inr (text_is p ms m member text)
piece_of p ms sorted few m member (inr agree) =
    inl (record {
      exits = piece_exits p ms m;
      are_exits = exits_are p sorted ms m;
      marked = omega (arith, few, few_exits p ms m);
      agree = agree;
    })

pub matched_enough : MatchedGraphsAgree
matched_enough p ms first second entry few pieces =
    questions_enough p ms first second entry (λ m member. let piece = pieces m member in (piece.0, piece_of p ms second few m member piece.1))
