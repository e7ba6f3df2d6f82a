-- The relation of a term on a table, written out: for each state, the states that the term relates it to.
use Rattle.std.proofs.Common.{◌≡◌, ℕ, zero as nought, suc, ◌+◌, ◌<◌, ◌≤◌, ◌⊎◌, inl, inr, ⊎_elim, ◌↔◌, List, [], ◌∷◌, map, replicate, refl, sym, subst, arith, Bool, true, false, cond}
use Rattle.std.specs.Bool.{IsTrue}
use Rattle.std.specs.List.{filter, range_with_len, slice_index_or}
use Rattle.std.proofs.lemmas.List.{get_or-replicate}
use Rattle.std.proofs.lemmas.List.FromFn.{get_or-map-range_with_len}
use Rattle.kat_model.specs.Trees.{Term}
use Rattle.kat_model.specs.Members.{Has}
use Rattle.kat_model.specs.Relations.{Table, Relates}
use Rattle.kat_model.specs.Working.Decided.{computes_relation}
use Rattle.kat_model.proofs.Decided.{relates_now_decides}

abbrev pub rows_now : Table → Term → List (List ℕ)
rows_now t e = map (λ i. filter (computes_relation t e i) (range_with_len 0 t.states)) (range_with_len 0 t.states)

-- the term relates each state of the table to those in its row, and to no others
pub record HasRows (t : Table) (e : Term) (rows : List (List ℕ)) : Type 0 where
  pub row : (i j : ℕ) → i < t.states → j < t.states → Relates t e i j ↔ Has (slice_index_or rows i []) j

has_cond : (b : Bool) (y : ℕ) (ys : List ℕ) (x : ℕ) → Has (cond b (y ∷ ys) ys) x → (IsTrue b × (y ≡ x)) ⊎ Has ys x
has_cond true y ys x h = ⊎_elim (λ e. inl (refl, e)) inr h
has_cond false y ys x h = inr h

cond_has : (b : Bool) (y : ℕ) (ys : List ℕ) (x : ℕ) → (IsTrue b × (y ≡ x)) ⊎ Has ys x → Has (cond b (y ∷ ys) ys) x
cond_has true y ys x h = ⊎_elim (λ p. inl p.1) inr h
cond_has false y ys x h = ⊎_elim (λ p. absurd cc) (λ k. k) h

has_filter : (p : ℕ → Bool) (xs : List ℕ) (x : ℕ) → Has (filter p xs) x → IsTrue (p x)
has_filter p [] x h = absurd h
has_filter p (y ∷ xs) x h =
    ⊎_elim (λ q. subst (λ z. IsTrue (p z)) q.1 q.0) (λ k. has_filter p xs x k) (has_cond (p y) y (filter p xs) x h)

filter_has : (p : ℕ → Bool) (xs : List ℕ) (x : ℕ) → Has xs x → IsTrue (p x) → Has (filter p xs) x
filter_has p [] x h t = absurd h
filter_has p (y ∷ xs) x h t =
    cond_has (p y) y (filter p xs) x (⊎_elim (λ e. inl (subst (λ z. IsTrue (p z)) (sym e) t, e)) (λ k. inr (filter_has p xs x k t)) h)

range_has : (a n x : ℕ) → a ≤ x → x < a + n → Has (range_with_len a n) x
range_has a nought x le lt = absurd (omega arith)
range_has a (suc n) x le lt = ⊎_elim inl (λ l. inr (range_has (a + 1) n x l (omega arith))) (cases a x le)
  where
    cases : (a x : ℕ) → a ≤ x → (a ≡ x) ⊎ (a + 1 ≤ x)
    cases a x le = grind arith

module _ (t : Table) (e : Term) where
  row_here : (i : ℕ) → i < t.states → slice_index_or (rows_now t e) i [] ≡ filter (computes_relation t e i) (range_with_len 0 t.states)
  row_here i li = get_or-map-range_with_len (λ k. filter (computes_relation t e k) (range_with_len 0 t.states)) 0 t.states i i [] li (omega arith)

  -- the computed rows are the rows of the relation
  pub computed_rows : HasRows t e (rows_now t e)
  computed_rows = record { row = same }
    where
      all : List ℕ
      all = range_with_len 0 t.states

      same : (i j : ℕ) → i < t.states → j < t.states → Relates t e i j ↔ Has (slice_index_or (rows_now t e) i []) j
      same i j li lj =
          let here = relates_now_decides t e i j li lj in (
            (λ r. subst (λ l. Has l j) (sym (row_here i li)) (filter_has (computes_relation t e i) all j (range_has 0 t.states j (omega arith) (omega arith)) (here.1 r))),
            (λ h. here.0 (has_filter (computes_relation t e i) all j (subst (λ l. Has l j) (row_here i li) h))),
          )

pub has_rows : {t : Table} {e : Term} {rows : List (List ℕ)} → rows_now t e ≡ rows → HasRows t e rows
has_rows {t} {e} h = subst (HasRows t e) h (computed_rows t e)

-- if each row is empty, the term relates nothing
pub no_rows : (t : Table) (e : Term) → HasRows t e (replicate t.states []) → (i j : ℕ) → i < t.states → j < t.states → Relates t e i j → ⊥
no_rows t e h i j li lj r = subst (λ l. Has l j) (get_or-replicate t.states i [] [] li) ((h.row i j li lj).0 r)
