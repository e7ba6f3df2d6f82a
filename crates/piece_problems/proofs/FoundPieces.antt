-- The problem of the graphs of a piece, or the reason why they have none, is that of the piece.
use Rattle.std.proofs.Common.{◌≡◌, true, List, sym, ap, subst}
use Rattle.std.specs.Prelude.{Vec}
use Rattle.std.specs.declared.alloc.Global.{Global}
use Rattle.flow_model.specs.declared.graph.Block.{Block}
use Rattle.flow_model.specs.Graphs.{Pair}
use Rattle.flow_model.specs.Matches.{Match}
use Rattle.flow_model.specs.WholeGraphs.{are_whole_blocks}
use Rattle.flow_problem.specs.PlacedProblems.{IsFlowProblem}
use Rattle.flow_matches.specs.Outcomes.{IsPieceOf, IsWholePiece}
use Rattle.flow_matches.specs.declared.piece.Piece.{Piece}
use Rattle.flow_matches.specs.declared.piece.Piece.TheVariants.{Graphs}
use Rattle.flow_abstraction.specs.Abstracts.{flow_problem_of}
use Rattle.flow_abstraction.specs.PosedQuestion.{posed, question_of}
use Rattle.piece_problems.specs.Questions.{IsRefused, AskedMatch, piece_question, HasGraphs}
use Rattle.piece_problems.specs.Outcomes.{IsProblemOf}
use Rattle.piece_problems.specs.Working.Posed.{IsProblemBetween}
use Rattle.piece_problems.specs.declared.problem.PieceProblem.{PieceProblem}
use Rattle.piece_problems.specs.declared.problem.PieceProblem.TheVariants.{SameText, Found, Ambiguous, Refused}
use Rattle.piece_problems.proofs.Reasons.{refused_as_trees, refused_as_blocks}

module _ (p : Pair) (ms : List Match) (a : AskedMatch) where
  module _ (before after : List Block) (first : are_whole_blocks before ≡ true) (second : are_whole_blocks after ≡ true) where
    between_graphs : HasGraphs p ms a → question_of (posed p.sorts before after a.rounds a.splits) ≡ piece_question p ms a
        → (r : PieceProblem) → IsProblemBetween (posed p.sorts before after a.rounds a.splits) r → IsProblemOf p ms a r
    between_graphs graphs same (Found found) h = record {
      graphs = graphs;
      problem = subst (λ q. IsFlowProblem q (flow_problem_of found)) same h.0;
      unrefused = λ fault refused. h.1 fault (refused_as_blocks (posed p.sorts before after a.rounds a.splits) first second fault (subst (λ q. IsRefused q fault) (sym same) refused));
    }
    between_graphs graphs same (Refused fault) h =
        (graphs, subst (λ q. IsRefused q fault) same (refused_as_trees (posed p.sorts before after a.rounds a.splits) first second fault h))
    between_graphs graphs same SameText h = absurd h
    between_graphs graphs same (Ambiguous i j) h = absurd h

  graphs_problem : (before after : Vec Block Global) → IsPieceOf p ms a.match (Graphs before after) → IsWholePiece (Graphs before after)
      → (r : PieceProblem) → IsProblemBetween (posed p.sorts before.items after.items a.rounds a.splits) r → IsProblemOf p ms a r
  graphs_problem before after has whole =
      between_graphs before.items after.items whole.0 whole.1 (record { unlike = has.0; unambiguous = has.1 })
      (ap (λ (q : Pair). record { pair = q; rounds = a.rounds; splits = a.splits }) has.2)

  -- the problem of the graphs of a piece is that of the piece
  pub piece_problem : (before after : Vec Block Global) (piece : Piece) → piece ≡ Graphs before after → IsPieceOf p ms a.match piece → IsWholePiece piece
      → (r : PieceProblem) → IsProblemBetween (posed p.sorts before.items after.items a.rounds a.splits) r → IsProblemOf p ms a r
  piece_problem before after piece is has whole = graphs_problem before after (subst (IsPieceOf p ms a.match) is has) (subst IsWholePiece is whole)
