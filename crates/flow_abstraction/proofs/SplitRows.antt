-- Edges that are split, for each place.
use Rattle.std.proofs.Common.{◌≡◌, ℕ, ◌<◌, ◌≤◌, inl, inr, Bool, true, false, List, [], ◌∷◌, ◌++◌, length, map, refl, sym, ◌∙◌, ap, subst, append_assoc}
use Rattle.std.proofs.lemmas.List.{map-id}
use Rattle.kat_model.specs.Members.{Has}
use Rattle.flow_model.specs.declared.sort.Sort.{Sort}
use Rattle.flow_forms.specs.Comparisons.{FlowComparisonTree}
use Rattle.flow_ways.specs.declared.limits.TheConstants.{MAX_WAYS}
use Rattle.flow_problem.specs.Edges.{Edge}
use Rattle.flow_problem.specs.Splits.{cell_tests, split_edges}
use Rattle.flow_problem.specs.FlowProblems.{edges_with}
use Rattle.flow_abstraction.specs.Working.Splits.{AreShort, HasLongRow}

one_more_short : (rows : List (List Edge)) (row : List Edge) → AreShort rows → length row ≤ MAX_WAYS → AreShort (rows ++ row ∷ [])
one_more_short [] row h k = (k, tt)
one_more_short (r ∷ rows) row h k = (h.0, one_more_short rows row h.1 k)

long_later : (rows more : List (List Edge)) → HasLongRow more → HasLongRow (rows ++ more)
long_later [] more h = h
long_later (r ∷ rows) more h = inr (long_later rows more h)

-- another row, short or too long
pub short_then : (old new : List (List Edge)) (row : List Edge) → new ≡ old ++ row ∷ [] → AreShort old → length row ≤ MAX_WAYS → AreShort new
short_then old new row e h k = subst AreShort (sym e) (one_more_short old row h k)

pub long_then : (old rest all : List (List Edge)) (row : List Edge) → old ++ row ∷ rest ≡ all → MAX_WAYS < length row → HasLongRow all
long_then old rest all row e h = subst HasLongRow e (long_later old (row ∷ rest) (inl h))

-- the next row is split
pub row_split : (old mid rest all : List (List Edge)) (row new : List Edge) → old ++ row ∷ rest ≡ all → new ≡ row → mid ≡ old ++ new ∷ [] → mid ++ rest ≡ all
row_split old mid rest all row new e same m = ap (λ rows. rows ++ rest) m ∙ append_assoc old (new ∷ []) rest ∙ ap (λ r. old ++ r ∷ rest) same ∙ e

-- rows of places
pub long_place : (edges : ℕ → List Edge) (ks : List ℕ) → HasLongRow (map edges ks) → (k : ℕ) × Has ks k × (MAX_WAYS < length (edges k))
long_place edges [] h = absurd h
long_place edges (k ∷ ks) (inl p) = (k, inl refl, p)
long_place edges (k ∷ ks) (inr h) = let r = long_place edges ks h in (r.0, inr r.1, r.2)

pub short_places : (edges : ℕ → List Edge) (ks : List ℕ) (k : ℕ) → AreShort (map edges ks) → Has ks k → length (edges k) ≤ MAX_WAYS
short_places edges [] k h m = absurd m
short_places edges (j ∷ ks) k h (inl e) = subst (λ i. length (edges i) ≤ MAX_WAYS) e h.0
short_places edges (j ∷ ks) k h (inr m) = short_places edges ks k h.1 m

-- what is done to the edges of each place
pub map-places : (f : List Edge → List Edge) (edges : ℕ → List Edge) (ks : List ℕ) → map f (map edges ks) ≡ map (λ k. f (edges k)) ks
map-places f edges [] = refl
map-places f edges (k ∷ ks) = ap (λ rows. f (edges k) ∷ rows) (map-places f edges ks)

-- rows that are split, or not, as the question says
module _ (splits : Bool) (tests : List FlowComparisonTree) (sorts : List Sort) where
  pub rows_kept : (rows : List (List Edge)) → splits ≡ false → rows ≡ map (edges_with splits tests sorts) rows
  rows_kept rows e = sym (map-id rows) ∙ ap (λ b. map (edges_with b tests sorts) rows) (sym e)

  rows_split : (rows : List (List Edge)) → splits ≡ true → map (split_edges sorts (cell_tests sorts tests)) rows ≡ map (edges_with splits tests sorts) rows
  rows_split rows e = ap (λ b. map (edges_with b tests sorts) rows) (sym e)

  pub made_split : (rows new : List (List Edge)) → new ≡ map (split_edges sorts (cell_tests sorts tests)) rows → splits ≡ true → new ≡ map (edges_with splits tests sorts) rows
  made_split rows new h e = h ∙ rows_split rows e

  pub long_split : (rows : List (List Edge)) → HasLongRow (map (split_edges sorts (cell_tests sorts tests)) rows) → splits ≡ true → HasLongRow (map (edges_with splits tests sorts) rows)
  long_split rows h e = subst HasLongRow (rows_split rows e) h
