-- The problem of two graphs, by their own places and live variables.
use Rattle.std.specs.Prelude.{◌≡◌, ◌<◌, length, Ok}
use Rattle.flow_model.specs.Graphs.{Graph, Pair}
use Rattle.flow_ways.specs.Sorted.{IsSortedGraph}
use Rattle.flow_places.specs.Places.{is_place, places}
use Rattle.flow_places.specs.Loops.{HasUncutLoop}
use Rattle.flow_places.specs.Live.{live}
use Rattle.flow_problem.specs.Edges.{Marks}
use Rattle.flow_problem.specs.Points.{FlowProblem}
use Rattle.flow_problem.specs.FlowProblems.{FlowQuestion, PairMarks, problem_by}

abbrev pub graph_marks : Graph → Marks
graph_marks g = record { places = places g; is_place = is_place g; live = live g }

abbrev pub pair_marks : Pair → PairMarks
pair_marks pair = record { before = graph_marks pair.before; after = graph_marks pair.after }

-- graphs as flow files have them: each has a block, and each expression has its sort
pub record IsFlowPair (pair : Pair) : Type 0 where
  pub before_blocks : 0 < length pair.before
  pub after_blocks : 0 < length pair.after
  pub before_sorted : IsSortedGraph pair.sorts pair.before
  pub after_sorted : IsSortedGraph pair.sorts pair.after

-- the problem of the question: places cut each loop of both graphs, and the problem is within the limits
pub record IsFlowProblem (q : FlowQuestion) (p : FlowProblem) : Type 0 where
  pub before_cut : HasUncutLoop q.pair.before → ⊥
  pub after_cut : HasUncutLoop q.pair.after → ⊥
  pub problem : problem_by q (pair_marks q.pair) ≡ Ok p
