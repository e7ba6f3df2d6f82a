-- The reasons of a question of graphs of the program whose expressions are one tree each are those of the graphs as trees.
use Rattle.std.proofs.Common.{◌≡◌, ◌<◌, ℕ, true, false, List, inl, inr, sym, subst}
use Rattle.flow_model.specs.declared.sort.Sort.{Sort}
use Rattle.flow_model.specs.declared.graph.Block.{Block}
use Rattle.flow_model.specs.Graphs.{Graph}
use Rattle.flow_model.specs.Polish.{graph_of}
use Rattle.flow_ways.specs.declared.limits.TheConstants.{MAX_WAYS}
use Rattle.flow_ways.specs.Outcomes.{Outcome}
use Rattle.flow_model.specs.WholeGraphs.{are_whole_blocks}
use Rattle.flow_laws.proofs.OneOutcome.{whole_outcomes}
use Rattle.flow_places.specs.Places.{is_place}
use Rattle.flow_problem.specs.FlowProblems.{FlowQuestion}
use Rattle.flow_abstraction.specs.declared.fault.FlowFault.{FlowFault}
use Rattle.flow_abstraction.specs.declared.fault.FlowFault.TheVariants.{NoMemory, UncutLoop, TooManyPaths, TooLarge, TooManyTests, TooManyActions, ProblemTooLarge}
use Rattle.flow_abstraction.specs.PosedQuestion as blocks
use Rattle.flow_abstraction.specs.PosedQuestion.{PosedQuestion, HasManyWays, HasLargeForm, IsRefusedBy}
use Rattle.piece_problems.specs.Questions.{ways_at, IsRefused}

-- ---- the same ways give the same reasons

module _ (g : Graph) (ways others : ℕ → Outcome) (same : (k : ℕ) → ways k ≡ others k) where
  many_ways : HasManyWays g ways → HasManyWays g others
  many_ways (k, has, many) = (k, has, subst (λ (o : Outcome). MAX_WAYS < o.count) (same k) many)

  large_form : HasLargeForm g ways → HasLargeForm g others
  large_form (k, has, large) = (k, has, subst (λ (o : Outcome). o.fits ≡ false) (same k) large)

module _ (q : FlowQuestion) (before after first second : ℕ → Outcome) (same : (k : ℕ) → before k ≡ first k) (also : (k : ℕ) → after k ≡ second k) where
  refused_by : (fault : FlowFault) → IsRefusedBy before after q fault → IsRefusedBy first second q fault
  refused_by NoMemory h = absurd h
  refused_by UncutLoop h = h
  refused_by TooManyPaths (inl (inl h)) = inl (inl (many_ways q.pair.before before first same h))
  refused_by TooManyPaths (inl (inr h)) = inl (inr (many_ways q.pair.after after second also h))
  refused_by TooManyPaths (inr h) = inr h
  refused_by TooLarge (inl h) = inl (large_form q.pair.before before first same h)
  refused_by TooLarge (inr h) = inr (large_form q.pair.after after second also h)
  refused_by TooManyTests h = h
  refused_by TooManyActions h = h
  refused_by ProblemTooLarge h = h

-- ---- graphs of the program and trees

-- the ways from a place of a graph of the program are those of its trees
one_outcome : (sorts : List Sort) (bs : List Block) → are_whole_blocks bs ≡ true → (k : ℕ) → blocks.ways_at sorts bs k ≡ ways_at sorts (graph_of bs) k
one_outcome sorts bs whole k = whole_outcomes bs whole sorts (is_place (graph_of bs)) k

module _ (a : PosedQuestion) (before : are_whole_blocks a.before ≡ true) (after : are_whole_blocks a.after ≡ true) where
  pub refused_as_trees : (fault : FlowFault) → blocks.IsRefused a fault → IsRefused (blocks.question_of a) fault
  refused_as_trees fault h =
      refused_by (blocks.question_of a) (blocks.ways_at a.sorts a.before) (blocks.ways_at a.sorts a.after) (ways_at a.sorts (graph_of a.before)) (ways_at a.sorts (graph_of a.after))
      (one_outcome a.sorts a.before before) (one_outcome a.sorts a.after after) fault h

  pub refused_as_blocks : (fault : FlowFault) → IsRefused (blocks.question_of a) fault → blocks.IsRefused a fault
  refused_as_blocks fault h =
      refused_by (blocks.question_of a) (ways_at a.sorts (graph_of a.before)) (ways_at a.sorts (graph_of a.after)) (blocks.ways_at a.sorts a.before) (blocks.ways_at a.sorts a.after)
      (λ k. sym (one_outcome a.sorts a.before before k)) (λ k. sym (one_outcome a.sorts a.after after k)) fault h
