-- The edges of tables are those of marks that agree with them.
use Rattle.std.proofs.Common.{◌≡◌, ℕ, ◌<◌, Bool, false, List, [], ◌∷◌, length, map, Some, slice_index_or, refl, ◌∙◌, ap, arith}
use Rattle.std.specs.Prelude.{Vec}
use Rattle.std.specs.declared.alloc.Global.{Global}
use mathlib.Core.Path.{ap₂}
use Rattle.flow_model.specs.declared.sort.Sort.{Sort}
use Rattle.flow_model.specs.Graphs.{Graph}
use Rattle.flow_ways.specs.Ways.{WayEnd, at_place, at_return, Way, ways}
use Rattle.flow_places.specs.Places.{place_marks, is_place}
use Rattle.flow_places.specs.Live.{live}
use Rattle.flow_places.specs.Tables.{noted}
use Rattle.flow_ways.proofs.ActionForms.{action_same}
use Rattle.flow_problem.specs.Edges.{assigned, Edge, Marks, end_action, end_target, edge_of, way_edges}
use Rattle.flow_problem.specs.PlacedProblems.{graph_marks}
use Rattle.flow_edges.specs.EdgeTables.{table_marks}

module _ (m n : Marks) (sorts : List Sort) (agree : (k x : ℕ) → x < length sorts → m.live k x ≡ n.live k x) where
  edge_same : (w : Way) → edge_of m sorts w ≡ edge_of n sorts w
  edge_same w = by_end w.end
    where
      by_end : (e : WayEnd) → ◌≡◌ {A = Edge} (record { tests = w.tests; action = end_action m sorts e; target = end_target e }) (record { tests = w.tests; action = end_action n sorts e; target = end_target e })
      by_end (at_place l forms) =
          ap (λ os. record { tests = w.tests; action = assigned os; target = Some l })
          (action_same (m.live l) (n.live l) 0 sorts forms (λ x p q. agree l x (omega (arith, q))))
      by_end (at_return results) = refl

  -- only what is live of the variables that there are counts
  pub edges_same : (ws : List Way) → map (edge_of m sorts) ws ≡ map (edge_of n sorts) ws
  edges_same [] = refl
  edges_same (w ∷ ws) = ap₂ (λ e es. e ∷ es) (edge_same w) (edges_same ws)

-- which blocks are places does not count for the edges of ways that are given
pub all_edges : (places : List Bool) (table : List (Vec Bool Global)) (sorts : List Sort) (es : List Edge) (trees ws : List Way) →
    es ≡ map (edge_of (table_marks [] table) sorts) trees → trees ≡ ws → es ≡ map (edge_of (table_marks places table) sorts) ws
all_edges places table sorts es trees ws made found =
    made ∙ edges_same (table_marks [] table) (table_marks places table) sorts (λ k x h. refl) trees ∙ ap (map (edge_of (table_marks places table) sorts)) found

-- the edges of tables with the places of a graph, and with what is live there of the variables that there are, are those
-- of the graph
pub table_edges : (g : Graph) (sorts : List Sort) (places : List Bool) (table : List (Vec Bool Global)) (k : ℕ) (es : List Edge) →
    places ≡ place_marks g → ((l x : ℕ) → x < length sorts → noted table x l ≡ live g l x) →
    es ≡ map (edge_of (table_marks places table) sorts) (ways g sorts (λ l. slice_index_or places l false) k) → es ≡ way_edges g sorts (graph_marks g) k
table_edges g sorts places table k es p h e =
    e
    ∙ ap (λ ps. map (edge_of (table_marks places table) sorts) (ways g sorts (λ l. slice_index_or ps l false) k)) p
    ∙ edges_same (table_marks places table) (graph_marks g) sorts h (ways g sorts (is_place g) k)
