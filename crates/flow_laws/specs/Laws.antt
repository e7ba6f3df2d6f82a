-- The laws of whole graphs.
use Rattle.std.specs.Prelude.{◌≡◌, ℕ, Bool, true, List}
use Rattle.flow_model.specs.declared.sort.Sort.{Sort}
use Rattle.flow_model.specs.declared.graph.Block.{Block}
use Rattle.flow_model.specs.Polish.{graph_of}
use Rattle.flow_ways.specs.Outcomes.{all_ways}
use Rattle.flow_model.specs.WholeGraphs.{are_whole_blocks}
use Rattle.flow_laws.specs.GraphOutcomes.{graph_outcome}

-- the ways of a whole graph are those of its trees
abbrev pub WholeOutcomes : Type 0
WholeOutcomes =
    (blocks : List Block) → are_whole_blocks blocks ≡ true → (sorts : List Sort) (is_place : ℕ → Bool) (k : ℕ) →
    all_ways blocks sorts is_place k ≡ graph_outcome (graph_of blocks) sorts is_place k
