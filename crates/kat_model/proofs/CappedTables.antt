-- Tables that grow up to a number of rows.
use Rattle.std.proofs.Common.{◌≡◌, ℕ, ◌<◌, ◌≤◌, Bool, true, false, cond, List, [], ◌∷◌, ◌++◌, length, ⊎_elim, refl, ap, ◌∙◌, arith}
use Rattle.std.specs.List.{list_any}
use Rattle.std.proofs.lemmas.List.{length-append}
use Rattle.std.proofs.lemmas.Bool.{lt-ltb, le-ltb, cases_lt}
use Rattle.kat_model.specs.UniqueRows.{with_new, with_all_new}
use Rattle.kat_model.specs.UniqueRows.{with_new_within, with_all_new_within}

module _ {X : Type 0} (n : ℕ) (same : X → X → Bool) where
  pub with_all_new_within-append : (xs ys zs : List X) → with_all_new_within n same xs (ys ++ zs) ≡ with_all_new_within n same (with_all_new_within n same xs ys) zs
  with_all_new_within-append xs [] zs = refl
  with_all_new_within-append xs (y ∷ ys) zs = with_all_new_within-append (with_new_within n same xs y) ys zs

  -- a table with too many rows does not change
  pub with_new_within-over : (xs : List X) (x : X) → n < length xs → with_new_within n same xs x ≡ xs
  with_new_within-over xs x h = rw (lt-ltb n (length xs) h) refl

  pub with_all_new_within-over : (xs ys : List X) → n < length xs → with_all_new_within n same xs ys ≡ xs
  with_all_new_within-over xs [] h = refl
  with_all_new_within-over xs (y ∷ ys) h = rw (with_new_within-over xs y h) (with_all_new_within-over xs ys h)

  -- a table within the limit has all rows
  capped-within : (xs ys : List X) → length (with_all_new_within n same xs ys) ≤ n → with_all_new_within n same xs ys ≡ with_all_new same xs ys
  capped-within xs [] h = refl
  capped-within xs (y ∷ ys) h =
      ⊎_elim
      (λ over. absurd (omega (arith, ap length (with_all_new_within-over xs (y ∷ ys) over))))
      (λ le. let next : with_new_within n same xs y ≡ with_new same xs y = rw (le-ltb n (length xs) le) refl in
      capped-within (with_new_within n same xs y) ys h ∙ ap (λ zs. with_all_new same zs ys) next)
      (cases_lt n (length xs))

  grows : (xs ys : List X) → length xs ≤ length (with_all_new same xs ys)
  grows xs [] = omega arith
  grows xs (y ∷ ys) = by_there (list_any (same y) xs) (grows (with_new same xs y) ys)
    where
      by_there : (b : Bool) → length (cond b xs (xs ++ y ∷ [])) ≤ length (with_all_new same (with_new same xs y) ys) → length xs ≤ length (with_all_new same (with_new same xs y) ys)
      by_there true h = h
      by_there false h = omega (arith, length-append xs (y ∷ []))

  -- if the capped table exceeds the limit, so does the table of all rows
  capped-over : (xs ys : List X) → n < length (with_all_new_within n same xs ys) → n < length (with_all_new same xs ys)
  capped-over xs [] h = h
  capped-over xs (y ∷ ys) h =
      ⊎_elim
      (λ over. omega (arith, grows xs (y ∷ ys)))
      (λ le. let next : with_new_within n same xs y ≡ with_new same xs y = rw (le-ltb n (length xs) le) refl in
      let k = capped-over (with_new_within n same xs y) ys h in rw (next) at k)
      (cases_lt n (length xs))

  pub first_rows : (rows new : List X) → new ≡ with_all_new_within n same [] rows → length new ≤ n → new ≡ with_all_new same [] rows
  first_rows rows new e le = e ∙ capped-within [] rows (omega (arith, ap length e))

  pub too_many_rows : (rows new : List X) → new ≡ with_all_new_within n same [] rows → n < length new → n < length (with_all_new same [] rows)
  too_many_rows rows new e lt = capped-over [] rows (omega (arith, ap length e))

-- the table of a nonempty list of rows is nonempty
pub first_rows_some : {X : Type 0} (same : X → X → Bool) (rows : List X) → 0 < length rows → 0 < length (with_all_new same [] rows)
first_rows_some same [] h = absurd (omega arith)
first_rows_some same (y ∷ ys) h = omega (arith, grows 0 same (y ∷ []) ys)
