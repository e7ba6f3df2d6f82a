-- The places and live variables of a graph mark it.
use Rattle.std.proofs.Common.{◌≡◌, ℕ, ◌<◌, Bool, true, false, ◌||◌, nat_eq, List, [], ◌∷◌, length, filter, cond, slice_index_or, refl, arith}
use Rattle.std.specs.List.{range_with_len}
use Rattle.std.proofs.lemmas.Bool.{and_from}
use Rattle.flow_model.specs.Graphs.{Graph}
use Rattle.flow_places.specs.Places.{is_reached, is_cut, is_place, places}
use Rattle.flow_places.specs.Loops.{entry, HasUncutLoop}
use Rattle.flow_places.proofs.CutRuns.{comes_to_end}
use Rattle.flow_places.proofs.Reaching.{reached_exactly, place_has}
use Rattle.flow_places.proofs.LiveTests.{live_exactly}
use Rattle.flow_problem.specs.Points.{FlowProblem, IsAbout}
use Rattle.flow_problem.specs.FlowProblems.{FlowQuestion, MarksGraph, HasMarks}
use Rattle.flow_problem.specs.PlacedProblems.{graph_marks, pair_marks, IsFlowPair, IsFlowProblem}
use Rattle.flow_problem.proofs.WholeProblems.{problem_is_about}

entry_place : (g : Graph) → 0 < length g → is_place g 0 ≡ true
entry_place [] h = absurd (omega arith)
entry_place (b ∷ bs) h = and_from (is_reached (b ∷ bs) 0) (nat_eq 0 0 || is_cut (b ∷ bs) 0) ((reached_exactly (b ∷ bs) 0).1 (entry 0 b refl refl)) refl

first_kept : (b : Bool) (ks : List ℕ) → b ≡ true → slice_index_or (cond b (0 ∷ ks) ks) 0 0 ≡ 0
first_kept true ks e = refl
first_kept false ks e = absurd cc

first_place : (g : Graph) → 0 < length g → slice_index_or (places g) 0 0 ≡ 0
first_place [] h = absurd (omega arith)
first_place (b ∷ bs) h = first_kept (is_place (b ∷ bs) 0) (filter (is_place (b ∷ bs)) (range_with_len 1 (length bs))) (entry_place (b ∷ bs) h)

pub graph_marked : (g : Graph) → 0 < length g → (HasUncutLoop g → ⊥) → MarksGraph g (graph_marks g)
graph_marked g h cut = record {
  entry = entry_place g h;
  first = first_place g h;
  listed = place_has g;
  settles = λ I k n s place settled. (comes_to_end I g k s cut place).settles n settled;
  live = λ k x h. (live_exactly g k x).1 h;
}

pub flow_marks : (q : FlowQuestion) (p : FlowProblem) → IsFlowPair q.pair → IsFlowProblem q p → HasMarks q.pair (pair_marks q.pair)
flow_marks q p pair problem = record {
  before_sorted = pair.before_sorted;
  after_sorted = pair.after_sorted;
  before_marked = graph_marked q.pair.before pair.before_blocks problem.before_cut;
  after_marked = graph_marked q.pair.after pair.after_blocks problem.after_cut;
}

pub flow_is_about : (q : FlowQuestion) (p : FlowProblem) → IsFlowPair q.pair → IsFlowProblem q p → IsAbout q.pair p
flow_is_about q p pair problem = problem_is_about q (pair_marks q.pair) p (flow_marks q p pair problem) problem.problem
