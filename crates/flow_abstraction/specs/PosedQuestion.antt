-- What is asked of two graphs of a file, and each fault for which no problem is made.
use Rattle.std.specs.Prelude.{◌≡◌, ◌<◌, ◌⊎◌, ℕ, ◌-◌, Bool, true, false, List, length, map}
use Rattle.kat_model.specs.Members.{Has}
use Rattle.kat_model.specs.declared.limits.TheConstants.{MAX_TESTS, MAX_ACTIONS, MAX_TERM_NODES, MAX_HYPS}
use Rattle.kat_model.specs.Problems.{problem_size}
use Rattle.flow_model.specs.declared.sort.Sort.{Sort}
use Rattle.flow_model.specs.declared.graph.Block.{Block}
use Rattle.flow_model.specs.Graphs.{Graph}
use Rattle.flow_model.specs.Polish.{graph_of}
use Rattle.flow_ways.specs.declared.limits.TheConstants.{MAX_WAYS}
use Rattle.flow_ways.specs.Outcomes.{Outcome, all_ways}
use Rattle.flow_places.specs.Places.{is_place, places}
use Rattle.flow_places.specs.Loops.{HasUncutLoop}
use Rattle.flow_problem.specs.Edges.{Edge}
use Rattle.flow_problem.specs.FlowProblems.{FlowQuestion, PairMarks, first_tests, edges_before, edges_after, flow_actions, flow_tests, flow_parts}
use Rattle.flow_problem.specs.PlacedProblems.{pair_marks}
use Rattle.flow_places.specs.Rows.{rows_fit}
use Rattle.flow_edges.specs.GraphRows.{edge_rows}
use Rattle.flow_abstraction.specs.declared.fault.FlowFault.{FlowFault}
use Rattle.flow_abstraction.specs.declared.fault.FlowFault.TheVariants.{NoMemory, UncutLoop, TooManyPaths, TooLarge, TooManyTests, TooManyActions, ProblemTooLarge}

-- two graphs of a file over variables of these sorts, with a number of rounds, and with or without splits
pub record PosedQuestion : Type 0 where
  pub sorts : List Sort
  pub before : List Block
  pub after : List Block
  pub rounds : ℕ
  pub splits : Bool

abbrev pub posed : List Sort → List Block → List Block → ℕ → Bool → PosedQuestion
posed sorts before after rounds splits = record { sorts = sorts; before = before; after = after; rounds = rounds; splits = splits }

abbrev pub question_of : PosedQuestion → FlowQuestion
question_of a = record {
  pair = record { sorts = a.sorts; before = graph_of a.before; after = graph_of a.after };
  rounds = a.rounds;
  splits = a.splits;
}

abbrev pub marks_of : PosedQuestion → PairMarks
marks_of a = pair_marks (question_of a).pair

-- some place of a graph has a property
abbrev pub AtSomePlace : Graph → (ℕ → Type 0) → Type 0
AtSomePlace g P = (k : ℕ) × Has (places g) k × P k

-- too many ways from some place, or a form on one of them that is too large, by the ways from each place
abbrev pub HasManyWays : Graph → (ℕ → Outcome) → Type 0
HasManyWays g outcome = AtSomePlace g (λ k. MAX_WAYS < (outcome k).count)

abbrev pub HasLargeForm : Graph → (ℕ → Outcome) → Type 0
HasLargeForm g outcome = AtSomePlace g (λ k. (outcome k).fits ≡ false)

-- more ways from a place than the limit come out of splits
abbrev pub HasManySplits : Bool → Graph → (ℕ → List Edge) → Type 0
HasManySplits splits g edges = (splits ≡ true) × AtSomePlace g (λ k. MAX_WAYS < length (edges k))

-- elimination makes terms with more nodes than the limit
abbrev pub HasLargeTerm : FlowQuestion → List ℕ → (ℕ → List Edge) → Type 0
HasLargeTerm q ks edges =
    rows_fit (length ks - 1) (edge_rows (flow_tests q (pair_marks q.pair)) (flow_actions q (pair_marks q.pair)) ks (map edges ks)) ≡ false

abbrev pub HasManyHypotheses : FlowQuestion → Type 0
HasManyHypotheses q = MAX_HYPS < length (flow_parts q (pair_marks q.pair)).hyps

abbrev pub HasManyNodes : FlowQuestion → Type 0
HasManyNodes q = MAX_TERM_NODES < problem_size (flow_parts q (pair_marks q.pair))

-- The reason of each fault, by the ways from each place of both graphs, with those that abort: where it holds, the question
-- has no problem. More than one may hold.
abbrev pub IsRefusedBy : (before after : ℕ → Outcome) → FlowQuestion → FlowFault → Type 0
IsRefusedBy before after q NoMemory = ⊥
IsRefusedBy before after q UncutLoop = HasUncutLoop q.pair.before ⊎ HasUncutLoop q.pair.after
IsRefusedBy before after q TooManyPaths =
    (HasManyWays q.pair.before before ⊎ HasManyWays q.pair.after after)
    ⊎ (HasManySplits q.splits q.pair.before (edges_before q (pair_marks q.pair)) ⊎ HasManySplits q.splits q.pair.after (edges_after q (pair_marks q.pair)))
IsRefusedBy before after q TooLarge = HasLargeForm q.pair.before before ⊎ HasLargeForm q.pair.after after
IsRefusedBy before after q TooManyTests = MAX_TESTS < length (first_tests q (pair_marks q.pair))
IsRefusedBy before after q TooManyActions = MAX_ACTIONS < length (flow_actions q (pair_marks q.pair))
IsRefusedBy before after q ProblemTooLarge =
    (HasManyHypotheses q ⊎ HasManyNodes q)
    ⊎ (HasLargeTerm q (places q.pair.before) (edges_before q (pair_marks q.pair)) ⊎ HasLargeTerm q (places q.pair.after) (edges_after q (pair_marks q.pair)))

-- the ways from a place of a graph of the program
abbrev pub ways_at : List Sort → List Block → ℕ → Outcome
ways_at sorts blocks k = all_ways blocks sorts (is_place (graph_of blocks)) k

abbrev pub IsRefused : PosedQuestion → FlowFault → Type 0
IsRefused a e = IsRefusedBy (ways_at a.sorts a.before) (ways_at a.sorts a.after) (question_of a) e

-- out of memory, or the reason of the fault holds
abbrev pub HasFault : PosedQuestion → FlowFault → Type 0
HasFault a e = (e ≡ NoMemory) ⊎ IsRefused a e

-- the question has a problem: no fault has its reason
abbrev pub HasNoFault : PosedQuestion → Type 0
HasNoFault a = (e : FlowFault) → IsRefused a e → ⊥
