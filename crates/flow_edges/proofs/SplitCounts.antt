-- Splits keep or double each edge.
use Rattle.std.proofs.Common.{◌≤◌, Bool, true, false, ◌&&◌, List, [], ◌∷◌, length, flat_map, Option, Some, None, if◌then◌else◌, arith, length-append}
use Rattle.flow_model.specs.declared.sort.Sort.{Sort}
use Rattle.flow_ways.specs.Conditions.{value_known}
use Rattle.flow_problem.specs.Edges.{Edge}
use Rattle.flow_problem.specs.Splits.{CellTest, action_reads, action_fits, edges_by, facts_of_all, split_edge, split_edges}

module _ (sorts : List Sort) where
  some_by : (x : CellTest) (e : Edge) (o : Option Bool) → 1 ≤ length (edges_by sorts x e o)
  some_by x e None = omega arith
  some_by x e (Some true) = omega arith
  some_by x e (Some false) = omega arith

  some_split : (x : CellTest) (e : Edge) → 1 ≤ length (split_edge sorts x e)
  some_split x e = by_test (action_reads x.cell e.action && action_fits sorts x e.action)
    where
      by_test : (b : Bool) → 1 ≤ length (if b then edges_by sorts x e (value_known (facts_of_all e.tests) x.comparison) else e ∷ [])
      by_test true = some_by x e (value_known (facts_of_all e.tests) x.comparison)
      by_test false = omega arith

  once_more : (x : CellTest) (es : List Edge) → length es ≤ length (flat_map (split_edge sorts x) es)
  once_more x [] = omega arith
  once_more x (e ∷ es) =
      let joined = length-append (split_edge sorts x e) (flat_map (split_edge sorts x) es) in
      let first = some_split x e in
      let rest = once_more x es in
      omega (arith, joined, first, rest)

  -- the edges only become more
  pub splits_grow : (xs : List CellTest) (es : List Edge) → length es ≤ length (split_edges sorts xs es)
  splits_grow [] es = omega arith
  splits_grow (x ∷ xs) es =
      let once = once_more x es in
      let later = splits_grow xs (flat_map (split_edge sorts x) es) in
      omega (arith, once, later)
