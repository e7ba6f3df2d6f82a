-- The terms of the edges between places, as rows from the last place to the first.
use Rattle.std.specs.Prelude.{ℕ, Bool, List, map, filter, reverse, Option, Some, None, Vec}
use Rattle.std.specs.declared.alloc.Global.{Global}
use Rattle.kat_model.specs.Trees.{Term}
use Rattle.kat_model.specs.Balanced.{sum_of}
use Rattle.flow_forms.specs.Comparisons.{FlowComparisonTree}
use Rattle.flow_problem.specs.Edges.{FlowActionTree, Edge}
use Rattle.flow_problem.specs.EdgeTerms.{edge_term, comes_to, is_end}
use Rattle.flow_places.specs.Rows.{TermRow}
use Rattle.flow_edges.specs.declared.edge.FlowEdge.{FlowEdge}
use Rattle.flow_edges.specs.EdgeViews.{flow_edge}

-- the edges from one place
abbrev pub row_edges : Vec FlowEdge Global → List Edge
row_edges row = map flow_edge row.items

-- whether an edge with a target leads to a block, or to the end
abbrev pub leads_to : Option ℕ → Option ℕ → Bool
leads_to None target = is_end target
leads_to (Some block) target = comes_to block target

-- the sum of the edges that lead to a block, or to the end
abbrev pub edges_term : List FlowComparisonTree → List FlowActionTree → List Edge → Option ℕ → Term
edges_term tests actions es to = sum_of (map (edge_term tests actions) (filter (λ e. leads_to to e.target) es))

-- the terms from a place to each place, the last one first, and to the end
abbrev pub edge_row : List FlowComparisonTree → List FlowActionTree → List ℕ → List Edge → TermRow
edge_row tests actions places es =
    record { steps = map (λ j. edges_term tests actions es (Some j)) (reverse places); end = edges_term tests actions es None }

-- the rows of the places, the last one first
abbrev pub edge_rows : List FlowComparisonTree → List FlowActionTree → List ℕ → List (List Edge) → List TermRow
edge_rows tests actions places rows = map (edge_row tests actions places) (reverse rows)
