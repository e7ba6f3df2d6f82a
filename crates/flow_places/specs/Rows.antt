-- A graph over places as rows of terms, from the last place to the first.
use Rattle.std.specs.Prelude.{◌≡◌, ℕ, zero, suc, ◌+◌, ◌-◌, ◌&&◌, nat_le, Bool, true, List, [], ◌∷◌, length, map, slice_index_or}
use Rattle.kat_model.specs.Trees.{Term, zero as nought, term_size, kat_tree}
use Rattle.kat_model.specs.Problems.{terms_size}
use Rattle.kat_model.specs.declared.limits.TheConstants.{MAX_TERM_NODES}
use Rattle.flow_places.specs.Elimination.{plus, times, repeated, eliminated}
use Rattle.flow_places.specs.declared.elimination.Row.{Row}

-- the terms from a place to each place, the last one first, and to the end
pub record TermRow : Type 0 where
  pub steps : List Term
  pub end : Term

abbrev pub row_tree : Row → TermRow
row_tree r = record { steps = map kat_tree r.steps.items; end = kat_tree r.end }

abbrev pub first_step : List Term → Term
first_step [] = nought
first_step (e ∷ es) = e

abbrev pub later_steps : List Term → List Term
later_steps [] = []
later_steps (e ∷ es) = es

-- each term, and the way to the last place, around it and on
abbrev pub steps_around : Term → Term → List Term → List Term → List Term
steps_around to around [] onward = []
steps_around to around (e ∷ es) [] = []
steps_around to around (e ∷ es) (f ∷ fs) = plus e (times to (times around f)) ∷ steps_around to around es fs

-- a row without the last place, whose row is given
abbrev pub row_without : TermRow → TermRow → TermRow
row_without last row = record {
  steps = steps_around (first_step row.steps) (repeated (first_step last.steps)) (later_steps row.steps) (later_steps last.steps);
  end = plus row.end (times (first_step row.steps) (times (repeated (first_step last.steps)) last.end));
}

-- rows without the last place
abbrev pub rows_without : List TermRow → List TermRow
rows_without [] = []
rows_without (last ∷ rows) = map (row_without last) rows

abbrev pub only_place : List TermRow → Term
only_place [] = nought
only_place (row ∷ rows) = times (repeated (first_step row.steps)) row.end

-- the term of the paths from the first place to the end, after n places are eliminated
abbrev pub rows_term : ℕ → List TermRow → Term
rows_term zero rows = only_place rows
rows_term (suc n) rows = rows_term n (rows_without rows)

-- the number of nodes of the terms of a row, and of rows
abbrev pub row_size : TermRow → ℕ
row_size row = terms_size row.steps + term_size row.end

abbrev pub rows_size : List TermRow → ℕ
rows_size [] = 0
rows_size (row ∷ rows) = row_size row + rows_size rows

-- whether the terms are within the limit after each place that is eliminated
abbrev pub rows_fit : ℕ → List TermRow → Bool
rows_fit zero rows = true
rows_fit (suc n) rows = nat_le (rows_size (rows_without rows)) MAX_TERM_NODES && rows_fit n (rows_without rows)

-- the matrix of the rows of places 0 to k: place i has row k - i, and its step to place j is step k - j of the row
abbrev pub row_from_last : List TermRow → ℕ → TermRow
row_from_last rows d = slice_index_or rows d (record { steps = []; end = nought })

abbrev pub matrix_steps : ℕ → List TermRow → ℕ → ℕ → Term
matrix_steps k rows i j = slice_index_or (row_from_last rows (k - i)).steps (k - j) nought

abbrev pub matrix_ends : ℕ → List TermRow → ℕ → Term
matrix_ends k rows i = (row_from_last rows (k - i)).end

-- each row has n steps
abbrev pub HaveSteps : ℕ → List TermRow → Type 0
HaveSteps n [] = Unit {0}
HaveSteps n (row ∷ rows) = (length row.steps ≡ n) × HaveSteps n rows

-- the term of the rows of k + 1 places is that of their matrix
abbrev pub RowsAreEliminated : Type 0
RowsAreEliminated =
    (k : ℕ) (rows : List TermRow) → length rows ≡ k + 1 → HaveSteps (k + 1) rows → rows_term k rows ≡ eliminated k (matrix_steps k rows) (matrix_ends k rows)
