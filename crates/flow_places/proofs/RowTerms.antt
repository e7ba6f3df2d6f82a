-- The elimination of places in rows is that in their matrix.
use Rattle.std.proofs.Common.{◌≡◌, ℕ, zero, suc, ◌+◌, ◌-◌, ◌<◌, ◌≤◌, List, [], ◌∷◌, length, map, slice_index_or, refl, sym, ◌∙◌, ap, subst, arith}
use mathlib.Core.Path.{ap₂}
use Rattle.kat_model.specs.Trees.{Term, zero as nought}
use Rattle.flow_places.specs.Elimination.{plus, times, repeated, steps_without, ends_without, eliminated}
use Rattle.flow_places.specs.Rows.{TermRow, first_step, later_steps, steps_around, row_without, rows_term, row_from_last, matrix_steps, matrix_ends, HaveSteps}

-- ---- elimination reads only the places up to k

same_way : (a b c d e f g h : Term) → a ≡ e → b ≡ f → c ≡ g → d ≡ h → plus a (times b (times (repeated c) d)) ≡ plus e (times f (times (repeated g) h))
same_way a b c d e f g h p q r s = rw (p, q, r, s) refl

pub eliminated_same : (k : ℕ) (f g : ℕ → ℕ → Term) (u v : ℕ → Term) → ((i j : ℕ) → i ≤ k → j ≤ k → f i j ≡ g i j) → ((i : ℕ) → i ≤ k → u i ≡ v i) → eliminated k f u ≡ eliminated k g v
eliminated_same zero f g u v p q = ap₂ (λ a b. times (repeated a) b) (p 0 0 (omega arith) (omega arith)) (q 0 (omega arith))
eliminated_same (suc k) f g u v p q =
    eliminated_same k (steps_without f (suc k)) (steps_without g (suc k)) (ends_without f u (suc k)) (ends_without g v (suc k))
    (λ i j hi hj.
    same_way (f i j) (f i (suc k)) (f (suc k) (suc k)) (f (suc k) j) (g i j) (g i (suc k)) (g (suc k) (suc k)) (g (suc k) j)
    (p i j (omega arith) (omega arith)) (p i (suc k) (omega arith) (omega arith)) (p (suc k) (suc k) (omega arith) (omega arith)) (p (suc k) j (omega arith) (omega arith)))
    (λ i hi.
    same_way (u i) (f i (suc k)) (f (suc k) (suc k)) (u (suc k)) (v i) (g i (suc k)) (g (suc k) (suc k)) (v (suc k))
    (q i (omega arith)) (p i (suc k) (omega arith) (omega arith)) (p (suc k) (suc k) (omega arith) (omega arith)) (q (suc k) (omega arith)))

-- ---- entries of rows

first_entry : (es : List Term) → first_step es ≡ slice_index_or es 0 nought
first_entry [] = refl
first_entry (e ∷ es) = refl

later_entry : (es : List Term) (d : ℕ) → slice_index_or (later_steps es) d nought ≡ slice_index_or es (suc d) nought
later_entry [] d = refl
later_entry (e ∷ es) d = refl

length-later : (es : List Term) (n : ℕ) → length es ≡ suc n → length (later_steps es) ≡ n
length-later [] n h = absurd (omega (arith, h))
length-later (e ∷ es) n h = omega (arith, h)

entry_around : (to around : Term) (es fs : List Term) (d : ℕ) → d < length es → d < length fs →
    slice_index_or (steps_around to around es fs) d nought ≡ plus (slice_index_or es d nought) (times to (times around (slice_index_or fs d nought)))
entry_around to around [] fs d h k = absurd (omega (arith, h))
entry_around to around (e ∷ es) [] d h k = absurd (omega (arith, k))
entry_around to around (e ∷ es) (f ∷ fs) zero h k = refl
entry_around to around (e ∷ es) (f ∷ fs) (suc d) h k = entry_around to around es fs d (omega (arith, h)) (omega (arith, k))

length-around : (to around : Term) (es fs : List Term) → length es ≡ length fs → length (steps_around to around es fs) ≡ length es
length-around to around [] fs h = refl
length-around to around (e ∷ es) [] h = absurd (omega (arith, h))
length-around to around (e ∷ es) (f ∷ fs) h = ap suc (length-around to around es fs (omega (arith, h)))

-- an entry of a row without the last place, whose rows have n + 2 steps
row_entry : (last row : TermRow) (n d : ℕ) → length last.steps ≡ suc n → length row.steps ≡ suc n → d < n →
    slice_index_or (row_without last row).steps d nought
    ≡ plus (slice_index_or row.steps (suc d) nought) (times (slice_index_or row.steps 0 nought) (times (repeated (slice_index_or last.steps 0 nought)) (slice_index_or last.steps (suc d) nought)))
row_entry last row n d hl hr lt =
    let a = length-later row.steps n hr in
    let b = length-later last.steps n hl in
    entry_around (first_step row.steps) (repeated (first_step last.steps)) (later_steps row.steps) (later_steps last.steps) d (omega (arith, a, lt)) (omega (arith, b, lt))
    ∙ same_way (slice_index_or (later_steps row.steps) d nought) (first_step row.steps) (first_step last.steps) (slice_index_or (later_steps last.steps) d nought)
    (slice_index_or row.steps (suc d) nought) (slice_index_or row.steps 0 nought) (slice_index_or last.steps 0 nought) (slice_index_or last.steps (suc d) nought)
    (later_entry row.steps d) (first_entry row.steps) (first_entry last.steps) (later_entry last.steps d)

row_end : (last row : TermRow) →
    (row_without last row).end ≡ plus row.end (times (slice_index_or row.steps 0 nought) (times (repeated (slice_index_or last.steps 0 nought)) last.end))
row_end last row = same_way row.end (first_step row.steps) (first_step last.steps) last.end row.end (slice_index_or row.steps 0 nought) (slice_index_or last.steps 0 nought) last.end refl (first_entry row.steps) (first_entry last.steps) refl

row_mapped : (h : TermRow → TermRow) (rows : List TermRow) (d : ℕ) → d < length rows → row_from_last (map h rows) d ≡ h (row_from_last rows d)
row_mapped h [] d lt = absurd (omega (arith, lt))
row_mapped h (row ∷ rows) zero lt = refl
row_mapped h (row ∷ rows) (suc d) lt = row_mapped h rows d (omega (arith, lt))

steps_there : (n : ℕ) (rows : List TermRow) (d : ℕ) → HaveSteps n rows → d < length rows → length (row_from_last rows d).steps ≡ n
steps_there n [] d h lt = absurd (omega (arith, lt))
steps_there n (row ∷ rows) zero h lt = h.0
steps_there n (row ∷ rows) (suc d) h lt = steps_there n rows d h.1 (omega (arith, lt))

steps_left : (n : ℕ) (last : TermRow) (rows : List TermRow) → length last.steps ≡ suc n → HaveSteps (suc n) rows → HaveSteps n (map (row_without last) rows)
steps_left n last [] hl h = tt
steps_left n last (row ∷ rows) hl h =
    let a = length-later row.steps n h.0 in
    let b = length-later last.steps n hl in
    (length-around (first_step row.steps) (repeated (first_step last.steps)) (later_steps row.steps) (later_steps last.steps) (a ∙ sym b) ∙ a, steps_left n last rows hl h.1)

length-rows : (h : TermRow → TermRow) (rows : List TermRow) → length (map h rows) ≡ length rows
length-rows h [] = refl
length-rows h (row ∷ rows) = ap suc (length-rows h rows)

-- ---- the matrix without the last place

module _ (k : ℕ) (last : TermRow) (rows : List TermRow) (count : length rows ≡ suc k) (wide : length last.steps ≡ suc (suc k)) (all : HaveSteps (suc (suc k)) rows) where
  step_left : (i j : ℕ) → i ≤ k → j ≤ k → matrix_steps k (map (row_without last) rows) i j ≡ steps_without (matrix_steps (suc k) (last ∷ rows)) (suc k) i j
  step_left i j hi hj =
      let di : suc k - i ≡ suc (k - i) = omega arith in
      let dj : suc k - j ≡ suc (k - j) = omega arith in
      let none : suc k - suc k ≡ 0 = omega arith in
      let lt : k - i < length rows = omega (arith, count) in
      ap (λ (r : TermRow). slice_index_or r.steps (k - j) nought) (row_mapped (row_without last) rows (k - i) lt)
      ∙ row_entry last (row_from_last rows (k - i)) (suc k) (k - j) wide (steps_there (suc (suc k)) rows (k - i) all lt) (omega arith)
      ∙ rw (di, dj, none) refl

  end_left : (i : ℕ) → i ≤ k → matrix_ends k (map (row_without last) rows) i ≡ ends_without (matrix_steps (suc k) (last ∷ rows)) (matrix_ends (suc k) (last ∷ rows)) (suc k) i
  end_left i hi =
      let di : suc k - i ≡ suc (k - i) = omega arith in
      let none : suc k - suc k ≡ 0 = omega arith in
      let lt : k - i < length rows = omega (arith, count) in
      ap (λ (r : TermRow). r.end) (row_mapped (row_without last) rows (k - i) lt)
      ∙ row_end last (row_from_last rows (k - i))
      ∙ same_way (row_from_last rows (k - i)).end (slice_index_or (row_from_last rows (k - i)).steps 0 nought) (slice_index_or last.steps 0 nought) last.end
      (matrix_ends (suc k) (last ∷ rows) i) (matrix_steps (suc k) (last ∷ rows) i (suc k)) (matrix_steps (suc k) (last ∷ rows) (suc k) (suc k)) (matrix_ends (suc k) (last ∷ rows) (suc k))
      (ap (λ d. (row_from_last (last ∷ rows) d).end) (sym di))
      (ap₂ (λ d e. slice_index_or (row_from_last (last ∷ rows) d).steps e nought) (sym di) (sym none))
      (ap₂ (λ d e. slice_index_or (row_from_last (last ∷ rows) d).steps e nought) (sym none) (sym none))
      (ap (λ d. (row_from_last (last ∷ rows) d).end) (sym none))

rows_by : (k : ℕ) (rows : List TermRow) → length rows ≡ suc k → HaveSteps (suc k) rows → rows_term k rows ≡ eliminated k (matrix_steps k rows) (matrix_ends k rows)
rows_by k [] h all = absurd (omega (arith, h))
rows_by zero (row ∷ rows) h all = ap (λ e. times (repeated e) row.end) (first_entry row.steps)
rows_by (suc k) (last ∷ rows) h all =
    let count : length rows ≡ suc k = omega (arith, h) in
    rows_by k (map (row_without last) rows) (length-rows (row_without last) rows ∙ count) (steps_left (suc k) last rows all.0 all.1)
    ∙ eliminated_same k (matrix_steps k (map (row_without last) rows)) (steps_without (matrix_steps (suc k) (last ∷ rows)) (suc k))
    (matrix_ends k (map (row_without last) rows)) (ends_without (matrix_steps (suc k) (last ∷ rows)) (matrix_ends (suc k) (last ∷ rows)) (suc k))
    (step_left k last rows count all.0 all.1) (end_left k last rows count all.0 all.1)

pub rows_are_eliminated : (k : ℕ) (rows : List TermRow) → length rows ≡ k + 1 → HaveSteps (k + 1) rows → rows_term k rows ≡ eliminated k (matrix_steps k rows) (matrix_ends k rows)
rows_are_eliminated k rows h all = rows_by k rows (h ∙ omega arith) (subst (λ n. HaveSteps n rows) (omega arith) all)
