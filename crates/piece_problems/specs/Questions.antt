-- The question of the piece of a match, its problem, and why it has none.
use Rattle.std.specs.Prelude.{◌≡◌, ◌⊎◌, ℕ, Bool, true, false, List}
use Rattle.kat_model.specs.Relations.{Same}
use Rattle.flow_model.specs.declared.sort.Sort.{Sort}
use Rattle.flow_model.specs.Graphs.{Graph, Pair}
use Rattle.flow_model.specs.Matches.{Match}
use Rattle.flow_ways.specs.Outcomes.{Outcome}
use Rattle.flow_places.specs.Places.{is_place}
use Rattle.flow_problem.specs.Points.{FlowProblem}
use Rattle.flow_problem.specs.FlowProblems.{FlowQuestion}
use Rattle.flow_problem.specs.PlacedProblems.{IsFlowProblem}
use Rattle.flow_pieces.specs.PieceGraphs.{piece_pair}
use Rattle.flow_pieces.specs.Exits.{piece_exits, is_ambiguous}
use Rattle.flow_pieces.specs.SameTexts.{has_same_text}
use Rattle.flow_laws.specs.GraphOutcomes.{graph_outcome}
use Rattle.flow_abstraction.specs.PosedQuestion.{IsRefusedBy}
use Rattle.flow_abstraction.specs.declared.fault.FlowFault.{FlowFault}

-- ---- why a question has no problem

-- the ways from a place of a graph, with those that abort
abbrev pub ways_at : List Sort → Graph → ℕ → Outcome
ways_at sorts g k = graph_outcome g sorts (is_place g) k

-- the reason of each refusal of a question; several may hold
abbrev pub IsRefused : FlowQuestion → FlowFault → Type 0
IsRefused q fault = IsRefusedBy (ways_at q.pair.sorts q.pair.before) (ways_at q.pair.sorts q.pair.after) q fault

-- ---- pieces

-- a match of two graphs, with the number of rounds and the splits of the question of its piece
pub record AskedMatch : Type 0 where
  pub match : Match
  pub rounds : ℕ
  pub splits : Bool

-- whether the two graphs of the piece of a match always return the same
abbrev pub piece_question : Pair → List Match → AskedMatch → FlowQuestion
piece_question p ms a = record { pair = piece_pair p ms a.match (piece_exits p ms a.match); rounds = a.rounds; splits = a.splits }

-- the piece has two graphs: its text is not the same, and no two of its exits share a block of the second graph
pub record HasGraphs (p : Pair) (ms : List Match) (a : AskedMatch) : Type 0 where
  pub unlike : has_same_text p ms a.match ≡ false
  pub unambiguous : is_ambiguous (piece_exits p ms a.match) ≡ false

-- the piece has two graphs, and their question has this problem: nothing refuses it
pub record HasPieceProblem (p : Pair) (ms : List Match) (a : AskedMatch) (r : FlowProblem) : Type 0 where
  pub graphs : HasGraphs p ms a
  pub problem : IsFlowProblem (piece_question p ms a) r
  pub unrefused : (fault : FlowFault) → IsRefused (piece_question p ms a) fault → ⊥

-- the piece holds: both sides have the same text, or both sides of its problem are the same
abbrev pub IsSamePiece : Pair → List Match → AskedMatch → Type 0
IsSamePiece p ms a = (has_same_text p ms a.match ≡ true) ⊎ ((r : FlowProblem) × HasPieceProblem p ms a r × Same r.problem)
