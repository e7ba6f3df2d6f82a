-- The edges from the places of a graph, by the tables of the program.
use Rattle.std.proofs.Common.{◌≡◌, ℕ, suc, ◌+◌, ◌<◌, ◌≤◌, inl, inr, Bool, true, false, List, [], ◌∷◌, ◌++◌, length, map, filter, slice_index_or, if◌then◌else◌, refl, sym, ◌∙◌, ap, subst, arith}
use Rattle.std.specs.Prelude.{Vec}
use Rattle.std.specs.declared.alloc.Global.{Global}
use Rattle.std.specs.List.{range_with_len}
use Rattle.std.proofs.lemmas.Bool.{both_ways}
use mathlib.Core.Path.{ap₂}
use Rattle.kat_model.specs.Members.{Has}
use Rattle.flow_model.specs.declared.sort.Sort.{Sort}
use Rattle.flow_model.specs.declared.graph.Block.{Block}
use Rattle.flow_model.specs.Graphs.{Graph}
use Rattle.flow_model.specs.Polish.{graph_of}
use Rattle.flow_ways.specs.Ways.{ways}
use Rattle.flow_ways.specs.declared.limits.TheConstants.{MAX_WAYS}
use Rattle.flow_ways.specs.declared.fault.WayFault.{WayFault}
use Rattle.flow_ways.specs.declared.fault.WayFault.TheVariants as way
use Rattle.flow_places.specs.Places.{place_marks, is_place, places}
use Rattle.flow_places.specs.Loops.{HasUncutLoop}
use Rattle.flow_places.specs.Live.{live}
use Rattle.flow_places.specs.Tables.{noted}
use Rattle.flow_places.specs.declared.fault.PlaceFault.{PlaceFault}
use Rattle.flow_places.specs.declared.fault.PlaceFault.TheVariants as place
use Rattle.flow_places.proofs.PlaceMarks.{range_pushed, filter-pushed}
use Rattle.flow_places.proofs.Reaching.{length-marks}
use Rattle.flow_problem.specs.Edges.{Edge, edge_of, way_edges}
use Rattle.flow_problem.specs.PlacedProblems.{graph_marks}
use Rattle.flow_edges.specs.EdgeTables.{table_marks}
use Rattle.flow_edges.proofs.EdgesOfTables.{table_edges as edges_of_tables}
use Rattle.flow_abstraction.specs.PosedQuestion.{HasManyWays, HasLargeForm, ways_at}
use Rattle.flow_abstraction.specs.Working.Placed.{of_place_fault, of_way_fault, AllAre, SomeIs, table_edges, table_ways, AreFew, HasWayFault, IsSound, HasGraphFault}

-- ---- lists of places

-- the places among n + 1 blocks
pub one_more : (p : ℕ → Bool) (n : ℕ) → filter p (range_with_len 0 (n + 1)) ≡ filter p (range_with_len 0 n) ++ (if p n then n ∷ [] else [])
one_more p n =
    let next : n + 1 ≡ suc n = omega arith in
    let last : 0 + n ≡ n = omega arith in
    ap (λ m. filter p (range_with_len 0 m)) next
    ∙ ap (filter p) (range_pushed 0 n ∙ ap (λ k. range_with_len 0 n ++ k ∷ []) last)
    ∙ filter-pushed p (range_with_len 0 n) n

-- the blocks that the table of places names are the places of the graph
pub listed_places : (g : Graph) (marks : List Bool) (ks : List ℕ) → marks ≡ place_marks g → ks ≡ filter (λ k. slice_index_or marks k false) (range_with_len 0 (length marks)) → ks ≡ places g
listed_places g marks ks m e =
    let long : length (place_marks g) ≡ length g = length-marks g in
    e
    ∙ ap (λ (ms : List Bool). filter (λ k. slice_index_or ms k false) (range_with_len 0 (length ms))) m
    ∙ ap (λ n. filter (is_place g) (range_with_len 0 n)) long

-- ---- members

some_place : (P : ℕ → Type 0) (ks : List ℕ) → SomeIs P ks → (k : ℕ) × Has ks k × P k
some_place P [] h = absurd h
some_place P (k ∷ ks) (inl p) = (k, inl refl, p)
some_place P (k ∷ ks) (inr h) = let r = some_place P ks h in (r.0, inr r.1, r.2)

all_there : (P : ℕ → Type 0) (ks : List ℕ) (k : ℕ) → AllAre P ks → Has ks k → P k
all_there P [] k h m = absurd m
all_there P (j ∷ ks) k h (inl e) = subst P e h.0
all_there P (j ∷ ks) k h (inr m) = all_there P ks k h.1 m

-- ---- faults

module _ (sorts : List Sort) (blocks : List Block) (marks : List Bool) where
  pub here_refused : (k : ℕ) (ks : List ℕ) (e : WayFault) → (e ≡ way.TooLarge → (table_ways sorts blocks marks k).fits ≡ false) → (e ≡ way.TooManyPaths → MAX_WAYS < (table_ways sorts blocks marks k).count) →
      HasWayFault sorts blocks marks (k ∷ ks) e
  here_refused k ks way.NoMemory p q = tt
  here_refused k ks way.TooLarge p q = inl (p refl)
  here_refused k ks way.TooManyPaths p q = inl (q refl)

  pub later_refused : (k : ℕ) (ks : List ℕ) (e : WayFault) → HasWayFault sorts blocks marks ks e → HasWayFault sorts blocks marks (k ∷ ks) e
  later_refused k ks way.NoMemory h = tt
  later_refused k ks way.TooLarge h = inr h
  later_refused k ks way.TooManyPaths h = inr h

  pub are_few : (k : ℕ) → (table_ways sorts blocks marks k).count ≤ MAX_WAYS → (table_ways sorts blocks marks k).fits ≡ true → AreFew sorts blocks marks k
  are_few k p q = record { few = p; fits = q }

  module _ (same : marks ≡ place_marks (graph_of blocks)) where
    pub ways_refused : (ks : List ℕ) (e : WayFault) → ks ≡ places (graph_of blocks) → HasWayFault sorts blocks marks ks e → HasGraphFault sorts blocks (of_way_fault e)
    ways_refused ks way.NoMemory listed h = tt
    ways_refused ks way.TooLarge listed h =
        let r = some_place (λ k. (table_ways sorts blocks marks k).fits ≡ false) ks h in
        (r.0, subst (λ ls. Has ls r.0) listed r.1, subst (λ ms. (table_ways sorts blocks ms r.0).fits ≡ false) same r.2)
    ways_refused ks way.TooManyPaths listed h =
        let r = some_place (λ k. MAX_WAYS < (table_ways sorts blocks marks k).count) ks h in
        (r.0, subst (λ ls. Has ls r.0) listed r.1, subst (λ ms. MAX_WAYS < (table_ways sorts blocks ms r.0).count) same r.2)

    pub all_sound : (ks : List ℕ) → ks ≡ places (graph_of blocks) → (HasUncutLoop (graph_of blocks) → ⊥) → AllAre (AreFew sorts blocks marks) ks → IsSound sorts blocks
    all_sound ks listed cut h = record { cut = cut; few = few; fits = fits }
      where
        here : (k : ℕ) → Has (places (graph_of blocks)) k → AreFew sorts blocks (place_marks (graph_of blocks)) k
        here k m = subst (λ ms. AreFew sorts blocks ms k) same (all_there (AreFew sorts blocks marks) ks k h (subst (λ ls. Has ls k) (sym listed) m))

        few : HasManyWays (graph_of blocks) (ways_at sorts blocks) → ⊥
        few m = let most = (here m.0 m.1).few in let more = m.2 in omega (arith, most, more)

        fits : HasLargeForm (graph_of blocks) (ways_at sorts blocks) → ⊥
        fits m = both_ways _ m.2 (here m.0 m.1).fits

pub loop_refused : (sorts : List Sort) (blocks : List Block) (e : PlaceFault) → (e ≡ place.UncutLoop → HasUncutLoop (graph_of blocks)) → HasGraphFault sorts blocks (of_place_fault e)
loop_refused sorts blocks place.NoMemory h = tt
loop_refused sorts blocks place.UncutLoop h = h refl

-- ---- edges

rows_are : (g : Graph) (sorts : List Sort) (blocks : List Block) (marks : List Bool) (table : List (Vec Bool Global)) (ks : List ℕ) → g ≡ graph_of blocks → marks ≡ place_marks g →
    ((l x : ℕ) → x < length sorts → noted table x l ≡ live g l x) → map (table_edges sorts blocks marks table) ks ≡ map (way_edges g sorts (graph_marks g)) ks
rows_are g sorts blocks marks table [] same m l = refl
rows_are g sorts blocks marks table (k ∷ ks) same m l =
    ap₂ (λ es ess. es ∷ ess)
    (edges_of_tables g sorts marks table k (table_edges sorts blocks marks table k) m l (ap (λ (h : Graph). map (edge_of (table_marks marks table) sorts) (ways h sorts (λ j. slice_index_or marks j false) k)) (sym same)))
    (rows_are g sorts blocks marks table ks same m l)

-- the rows of the program are the edges from the places
pub rows_of_places : (g : Graph) (sorts : List Sort) (blocks : List Block) (marks : List Bool) (table : List (Vec Bool Global)) (ks : List ℕ) (rows : List (List Edge)) →
    rows ≡ map (table_edges sorts blocks marks table) ks → g ≡ graph_of blocks → marks ≡ place_marks g → ((l x : ℕ) → x < length sorts → noted table x l ≡ live g l x) → ks ≡ places g →
    rows ≡ map (way_edges g sorts (graph_marks g)) (places g)
rows_of_places g sorts blocks marks table ks rows e same m l listed =
    e ∙ rows_are g sorts blocks marks table ks same m l ∙ ap (map (way_edges g sorts (graph_marks g))) listed
