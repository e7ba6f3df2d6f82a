-- The rows of the places of a graph give its term.
use Rattle.std.proofs.Common.{◌≡◌, ℕ, ◌+◌, ◌-◌, ◌<◌, ◌≤◌, List, [], ◌∷◌, ◌++◌, length, map, take, Option, reverse, slice_index_or, Some, refl, sym, ◌∙◌, ap, arith}
use mathlib.Core.Path.{ap₂}
use mathlib.Core.List.{reverse_aux}
use Rattle.std.specs.List.{filter, flat_map}
use Rattle.std.proofs.lemmas.List.{length-map, length-reverse, get_or-map, get_or-reverse, map-append, map_more}
use Rattle.std.proofs.lemmas.List.Elements.{filter-append}
use Rattle.kat_model.specs.Trees.{Term, zero as nought}
use Rattle.kat_model.specs.Balanced.{sum_of}
use Rattle.flow_forms.specs.Comparisons.{FlowComparisonTree}
use Rattle.flow_problem.specs.Edges.{FlowActionTree, Edge}
use Rattle.flow_problem.specs.EdgeTerms.{edge_term, comes_to, is_end, step_term, end_term, place_block, graph_term, all_edges}
use Rattle.flow_places.specs.Elimination.{times, repeated, eliminated}
use Rattle.flow_places.specs.Rows.{TermRow, rows_term, rows_fit, row_from_last, matrix_steps, matrix_ends, HaveSteps}
use Rattle.flow_places.proofs.RowTerms.{eliminated_same, rows_are_eliminated}
use Rattle.flow_edges.specs.GraphRows.{leads_to, edges_term, edge_row, edge_rows}

-- the edges of the places are all edges of a graph
pub all_edges_are : {X : Type 0} (f : X → List Edge) (rows : List X) (places : List ℕ) (from : ℕ → List Edge) → map f rows ≡ map from places → flat_map f rows ≡ all_edges places from
all_edges_are f [] [] from e = refl
all_edges_are f [] (k ∷ places) from e = absurd (cc)
all_edges_are f (row ∷ rows) [] from e = absurd (cc)
all_edges_are f (row ∷ rows) (k ∷ places) from e =
    let first : f row ≡ from k = cc in
    let rest : map f rows ≡ map from places = cc in
    ap₂ (λ es others. es ++ others) first (all_edges_are f rows places from rest)

reversed_onto : {X Y : Type 0} (f : X → Y) (xs done : List X) → map f (reverse_aux xs done) ≡ reverse_aux (map f xs) (map f done)
reversed_onto f [] done = refl
reversed_onto f (x ∷ xs) done = reversed_onto f xs (x ∷ done)

pub map-reverse : {X Y : Type 0} (f : X → Y) (xs : List X) → map f (reverse xs) ≡ reverse (map f xs)
map-reverse f xs = reversed_onto f xs []

-- one more edge
pub next_edge : {X : Type 0} (seen : X → Edge) (tests : List FlowComparisonTree) (actions : List FlowActionTree) (to : Option ℕ) (xs : List X) (i : ℕ) (x : X) (old new : List Term) →
    i < length xs → x ≡ slice_index_or xs i x → old ≡ map (edge_term tests actions) (filter (λ e. leads_to to e.target) (map seen (take i xs))) →
    new ≡ old ++ map (edge_term tests actions) (filter (λ e. leads_to to e.target) (seen x ∷ [])) →
    new ≡ map (edge_term tests actions) (filter (λ e. leads_to to e.target) (map seen (take (i + 1) xs)))
next_edge seen tests actions to xs i x old new lt read so_far more =
    more
    ∙ ap (λ ts. ts ++ map (edge_term tests actions) (filter (λ e. leads_to to e.target) (seen x ∷ []))) so_far
    ∙ sym
    (ap (λ es. map (edge_term tests actions) (filter (λ e. leads_to to e.target) es)) (map_more seen xs i x lt ∙ ap (λ y. map seen (take i xs) ++ seen y ∷ []) (sym read))
    ∙ ap (map (edge_term tests actions)) (filter-append (λ e. leads_to to e.target) (map seen (take i xs)) (seen x ∷ []))
    ∙ map-append (edge_term tests actions) (filter (λ e. leads_to to e.target) (map seen (take i xs))) (filter (λ e. leads_to to e.target) (seen x ∷ [])))

module _ (tests : List FlowComparisonTree) (actions : List FlowActionTree) (places : List ℕ) (from : ℕ → List Edge) where
  have_steps : (n : ℕ) (ess : List (List Edge)) → length places ≡ n → HaveSteps n (map (edge_row tests actions places) ess)
  have_steps n [] h = tt
  have_steps n (es ∷ ess) h =
      (length-map (reverse places) (λ j. edges_term tests actions es (Some j)) ∙ length-reverse places ∙ h, have_steps n ess h)

  length-rows : length (edge_rows tests actions places (map from places)) ≡ length places
  length-rows = length-map (reverse (map from places)) (edge_row tests actions places) ∙ length-reverse (map from places) ∙ length-map places from

  -- the row of place i is the one before the last i
  row_of_place : (k i : ℕ) → length places ≡ k + 1 → i ≤ k → row_from_last (edge_rows tests actions places (map from places)) (k - i) ≡ edge_row tests actions places (from (place_block places i))
  row_of_place k i h le =
      let count : length (map from places) ≡ k + 1 = length-map places from ∙ h in
      let inside : k - i < length (map from places) = omega (arith, count, le) in
      let there : k - i < length (reverse (map from places)) = let l = length-reverse (map from places) in omega (arith, count, le, l) in
      let same : length (map from places) - 1 - (k - i) ≡ i = omega (arith, count, le) in
      get_or-map (edge_row tests actions places) (reverse (map from places)) (k - i) [] (record { steps = []; end = nought }) there
      ∙ ap (edge_row tests actions places)
      (get_or-reverse (map from places) (k - i) [] inside ∙ ap (λ n. slice_index_or (map from places) n []) same ∙ get_or-map from places i 0 [] (omega (arith, h, le)))

  step_of_place : (k i j : ℕ) → length places ≡ k + 1 → i ≤ k → j ≤ k →
      matrix_steps k (edge_rows tests actions places (map from places)) i j ≡ step_term tests actions from (place_block places i) (place_block places j)
  step_of_place k i j h hi hj =
      let inside : k - j < length places = omega (arith, h, hj) in
      let there : k - j < length (reverse places) = let l = length-reverse places in omega (arith, h, hj, l) in
      let same : length places - 1 - (k - j) ≡ j = omega (arith, h, hj) in
      ap (λ (row : TermRow). slice_index_or row.steps (k - j) nought) (row_of_place k i h hi)
      ∙ get_or-map (λ b. edges_term tests actions (from (place_block places i)) (Some b)) (reverse places) (k - j) 0 nought there
      ∙ ap (λ b. edges_term tests actions (from (place_block places i)) (Some b))
      (get_or-reverse places (k - j) 0 inside ∙ ap (λ n. slice_index_or places n 0) same)

  end_of_place : (k i : ℕ) → length places ≡ k + 1 → i ≤ k →
      matrix_ends k (edge_rows tests actions places (map from places)) i ≡ end_term tests actions from (place_block places i)
  end_of_place k i h hi = ap (λ (row : TermRow). row.end) (row_of_place k i h hi)

  rows_make : (k : ℕ) → length places ≡ k + 1 → rows_term k (edge_rows tests actions places (map from places)) ≡ graph_term tests actions places from
  rows_make k h =
      let last : k ≡ length places - 1 = omega (arith, h) in
      rows_are_eliminated k (edge_rows tests actions places (map from places)) (length-rows ∙ h) (have_steps (k + 1) (reverse (map from places)) h)
      ∙ eliminated_same k (matrix_steps k (edge_rows tests actions places (map from places))) (λ i j. step_term tests actions from (place_block places i) (place_block places j))
      (matrix_ends k (edge_rows tests actions places (map from places))) (λ i. end_term tests actions from (place_block places i))
      (λ i j hi hj. step_of_place k i j h hi hj) (λ i hi. end_of_place k i h hi)
      ∙ ap (λ n. eliminated n (λ i j. step_term tests actions from (place_block places i) (place_block places j)) (λ i. end_term tests actions from (place_block places i))) last

-- a graph without places has the term 0, if it has no edges
no_places : (tests : List FlowComparisonTree) (actions : List FlowActionTree) (from : ℕ → List Edge) → from 0 ≡ [] → graph_term tests actions [] from ≡ nought
no_places tests actions from h =
    ap
    (λ es. times (repeated (sum_of (map (edge_term tests actions) (filter (λ e. comes_to 0 e.target) es)))) (sum_of (map (edge_term tests actions) (filter (λ e. is_end e.target) es)))) h

-- the rows of the edges from each place have the term of the graph
pub graph_rows : (tests : List FlowComparisonTree) (actions : List FlowActionTree) (places : List ℕ) (from : ℕ → List Edge) (ess : List (List Edge)) (e : Term) →
    e ≡ rows_term (length ess - 1) (edge_rows tests actions places ess) → (places ≡ [] → from 0 ≡ []) → ess ≡ map from places → e ≡ graph_term tests actions places from
graph_rows tests actions [] from ess e made none same =
    made ∙ ap (λ rows. rows_term (length rows - 1) (edge_rows tests actions [] rows)) same ∙ sym (no_places tests actions from (none refl))
graph_rows tests actions (k ∷ places) from ess e made none same =
    let count : length (map from (k ∷ places)) ≡ length (k ∷ places) = length-map (k ∷ places) from in
    made
    ∙ ap (λ rows. rows_term (length rows - 1) (edge_rows tests actions (k ∷ places) rows)) same
    ∙ ap (λ n. rows_term (n - 1) (edge_rows tests actions (k ∷ places) (map from (k ∷ places)))) count
    ∙ rows_make tests actions (k ∷ places) from (length (k ∷ places) - 1) (omega arith)

-- the rows of the program are as many as the edges are given for
pub rows_counted : {X Y : Type 0} (seen : X → TermRow) (edges : Y → List Edge) (tests : List FlowComparisonTree) (actions : List FlowActionTree) (places : List ℕ) (rows : List X) (list : List Y) →
    map seen rows ≡ edge_rows tests actions places (map edges list) → length rows ≡ length list
rows_counted seen edges tests actions places rows list e =
    sym (length-map rows seen) ∙ ap length e ∙ length-map (reverse (map edges list)) (edge_row tests actions places) ∙ length-reverse (map edges list) ∙ length-map list edges

pub rows_same_fit : {X Y : Type 0} (seen : X → TermRow) (edges : Y → List Edge) (tests : List FlowComparisonTree) (actions : List FlowActionTree) (places : List ℕ) (rows : List X) (list : List Y) →
    map seen rows ≡ edge_rows tests actions places (map edges list) → rows_fit (length rows - 1) (map seen rows) ≡ rows_fit (length list - 1) (edge_rows tests actions places (map edges list))
rows_same_fit seen edges tests actions places rows list e = ap₂ (λ n rs. rows_fit (n - 1) rs) (rows_counted seen edges tests actions places rows list e) e

pub rows_graph : {X Y : Type 0} (seen : X → TermRow) (edges : Y → List Edge) (tests : List FlowComparisonTree) (actions : List FlowActionTree) (places : List ℕ) (rows : List X) (list : List Y) (e : Term) →
    map seen rows ≡ edge_rows tests actions places (map edges list) → e ≡ rows_term (length rows - 1) (map seen rows) →
    (from : ℕ → List Edge) → (places ≡ [] → from 0 ≡ []) → map edges list ≡ map from places → e ≡ graph_term tests actions places from
rows_graph seen edges tests actions places rows list e made m from none same =
    graph_rows tests actions places from (map edges list) e
    (m ∙ ap₂ (λ n rs. rows_term (n - 1) rs) (rows_counted seen edges tests actions places rows list made ∙ sym (length-map list edges)) made)
    none same
