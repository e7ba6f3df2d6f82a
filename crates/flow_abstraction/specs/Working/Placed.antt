-- The edges from the places of a graph, and why there are none.
use Rattle.std.specs.Prelude.{◌≡◌, ◌<◌, ◌≤◌, ◌⊎◌, ℕ, Bool, true, false, List, [], ◌∷◌, map, slice_index_or, Vec}
use Rattle.std.specs.declared.alloc.Global.{Global}
use Rattle.flow_model.specs.declared.sort.Sort.{Sort}
use Rattle.flow_model.specs.declared.graph.Block.{Block}
use Rattle.flow_model.specs.Graphs.{Graph}
use Rattle.flow_model.specs.Polish.{graph_of}
use Rattle.flow_ways.specs.declared.limits.TheConstants.{MAX_WAYS}
use Rattle.flow_ways.specs.declared.fault.WayFault.{WayFault}
use Rattle.flow_ways.specs.declared.fault.WayFault.TheVariants as way
use Rattle.flow_ways.specs.Outcomes.{Outcome, all_ways}
use Rattle.flow_places.specs.Places.{places}
use Rattle.flow_places.specs.Loops.{HasUncutLoop}
use Rattle.flow_places.specs.declared.fault.PlaceFault.{PlaceFault}
use Rattle.flow_places.specs.declared.fault.PlaceFault.TheVariants as place
use Rattle.flow_problem.specs.Edges.{Edge, edge_of}
use Rattle.flow_ways.specs.Ways.{ways}
use Rattle.flow_edges.specs.EdgeTables.{table_marks}
use Rattle.flow_edges.specs.GraphRows.{row_edges}
use Rattle.flow_edges.specs.declared.fault.TableFault.{TableFault}
use Rattle.flow_edges.specs.declared.fault.TableFault.TheVariants as table
use Rattle.flow_edges.specs.declared.splits.split_fault.SplitFault.{SplitFault}
use Rattle.flow_edges.specs.declared.splits.split_fault.SplitFault.TheVariants as split
use Rattle.flow_places.specs.declared.term_fault.TermFault.{TermFault}
use Rattle.flow_places.specs.declared.term_fault.TermFault.TheVariants as term
use Rattle.flow_abstraction.specs.declared.hypothesis_fault.HypothesisFault.{HypothesisFault}
use Rattle.flow_abstraction.specs.declared.hypothesis_fault.HypothesisFault.TheVariants as hypothesis
use Rattle.flow_abstraction.specs.declared.fault.FlowFault.{FlowFault}
use Rattle.flow_abstraction.specs.declared.fault.FlowFault.TheVariants.{NoMemory, UncutLoop, TooManyPaths, TooLarge, TooManyTests, TooManyActions, ProblemTooLarge}
use Rattle.flow_abstraction.specs.declared.placed.PlacedEdges.{PlacedEdges}
use Rattle.flow_abstraction.specs.PosedQuestion.{HasManyWays, HasLargeForm, ways_at}

-- ---- faults of the parts as faults of a question

abbrev pub of_place_fault : PlaceFault → FlowFault
of_place_fault place.NoMemory = NoMemory
of_place_fault place.UncutLoop = UncutLoop

abbrev pub of_way_fault : WayFault → FlowFault
of_way_fault way.NoMemory = NoMemory
of_way_fault way.TooLarge = TooLarge
of_way_fault way.TooManyPaths = TooManyPaths

abbrev pub of_table_fault : TableFault → FlowFault
of_table_fault table.NoMemory = NoMemory
of_table_fault table.TooManyTests = TooManyTests
of_table_fault table.TooManyActions = TooManyActions

abbrev pub of_split_fault : SplitFault → FlowFault
of_split_fault split.NoMemory = NoMemory
of_split_fault split.TooManyPaths = TooManyPaths

abbrev pub of_term_fault : TermFault → FlowFault
of_term_fault term.NoMemory = NoMemory
of_term_fault term.TooLarge = ProblemTooLarge

abbrev pub of_hypothesis_fault : HypothesisFault → FlowFault
of_hypothesis_fault hypothesis.NoMemory = NoMemory
of_hypothesis_fault hypothesis.TooMany = ProblemTooLarge

-- ---- a property of all members of a list, or of one of them

abbrev pub AllAre : (ℕ → Type 0) → List ℕ → Type 0
AllAre P [] = Unit {0}
AllAre P (k ∷ ks) = P k × AllAre P ks

abbrev pub SomeIs : (ℕ → Type 0) → List ℕ → Type 0
SomeIs P [] = ⊥
SomeIs P (k ∷ ks) = P k ⊎ SomeIs P ks

-- ---- edges by tables of places and live variables

abbrev pub table_edges : List Sort → List Block → List Bool → List (Vec Bool Global) → ℕ → List Edge
table_edges sorts blocks places live k =
    map (edge_of (table_marks places live) sorts) (ways (graph_of blocks) sorts (λ l. slice_index_or places l false) k)

abbrev pub table_ways : List Sort → List Block → List Bool → ℕ → Outcome
table_ways sorts blocks places k = all_ways blocks sorts (λ l. slice_index_or places l false) k

-- the ways from a place are within the limits
pub record AreFew (sorts : List Sort) (blocks : List Block) (places : List Bool) (k : ℕ) : Type 0 where
  pub few : (table_ways sorts blocks places k).count ≤ MAX_WAYS
  pub fits : (table_ways sorts blocks places k).fits ≡ true

-- why some edges are not made
abbrev pub HasWayFault : List Sort → List Block → List Bool → List ℕ → WayFault → Type 0
HasWayFault sorts blocks places ks way.NoMemory = Unit {0}
HasWayFault sorts blocks places ks way.TooLarge = SomeIs (λ k. (table_ways sorts blocks places k).fits ≡ false) ks
HasWayFault sorts blocks places ks way.TooManyPaths = SomeIs (λ k. MAX_WAYS < (table_ways sorts blocks places k).count) ks

-- ---- the edges of a graph

-- the places of the graph, and the edges from each
abbrev pub HasEdges : Graph → (ℕ → List Edge) → PlacedEdges → Type 0
HasEdges g from p = (p.places.items ≡ places g) × (map row_edges p.edges.items ≡ map from (places g))

-- no fault of the graph itself has its reason
pub record IsSound (sorts : List Sort) (blocks : List Block) : Type 0 where
  pub cut : HasUncutLoop (graph_of blocks) → ⊥
  pub few : HasManyWays (graph_of blocks) (ways_at sorts blocks) → ⊥
  pub fits : HasLargeForm (graph_of blocks) (ways_at sorts blocks) → ⊥

abbrev pub HasGraphFault : List Sort → List Block → FlowFault → Type 0
HasGraphFault sorts blocks NoMemory = Unit {0}
HasGraphFault sorts blocks UncutLoop = HasUncutLoop (graph_of blocks)
HasGraphFault sorts blocks TooManyPaths = HasManyWays (graph_of blocks) (ways_at sorts blocks)
HasGraphFault sorts blocks TooLarge = HasLargeForm (graph_of blocks) (ways_at sorts blocks)
HasGraphFault sorts blocks TooManyTests = ⊥
HasGraphFault sorts blocks TooManyActions = ⊥
HasGraphFault sorts blocks ProblemTooLarge = ⊥
