-- Tables that receive the rows of one list after the other.
use Rattle.std.proofs.Common.{◌≡◌, ℕ, ◌<◌, ◌≤◌, Bool, List, [], ◌++◌, length, map, Option, sym, ◌∙◌, ap, arith}
use Rattle.std.specs.Prelude.{unwrap_or}
use Rattle.std.specs.List.{flat_map, position}
use Rattle.std.proofs.lemmas.List.{length-map}
use Rattle.std.proofs.lemmas.List.Concat.{flat_map-append}
use Rattle.kat_model.specs.UniqueRows.{with_all_new, with_all_new_within}
use Rattle.flow_problem.specs.EdgeTerms.{row_number}
use Rattle.kat_model.proofs.MappedRows.{position-map}
use Rattle.kat_model.proofs.CappedTables.{with_all_new_within-append, first_rows, too_many_rows}

module _ {Y : Type 0} (same : Y → Y → Bool) (n : ℕ) where
  pub first_then : (old mid new xs ys : List Y) → mid ≡ with_all_new_within n same old xs → new ≡ with_all_new_within n same mid ys → new ≡ with_all_new_within n same old (xs ++ ys)
  first_then old mid new xs ys e f =
      f ∙ ap (λ zs. with_all_new_within n same zs ys) e ∙ sym (with_all_new_within-append n same old xs ys)

  -- the same of rows that two lists of parts have
  pub parts_then : {Z : Type 0} (rows : Z → List Y) (old mid new : List Y) (xs ys : List Z) → mid ≡ with_all_new_within n same old (flat_map rows xs) → new ≡ with_all_new_within n same mid (flat_map rows ys) → new ≡ with_all_new_within n same old (flat_map rows (xs ++ ys))
  parts_then rows old mid new xs ys e f =
      first_then old mid new (flat_map rows xs) (flat_map rows ys) e f ∙ ap (λ zs. with_all_new_within n same old zs) (sym (flat_map-append rows xs ys))

  -- the same where the first parts are those of a list
  pub part_then : {W Z : Type 0} (seen : W → Z) (rows : Z → List Y) (old mid new : List Y) (ws vs : List W) (ys : List Z) → ws ≡ vs → mid ≡ with_all_new_within n same old (flat_map rows (map seen ws)) →
      new ≡ with_all_new_within n same mid (flat_map rows ys) → new ≡ with_all_new_within n same old (flat_map rows (map seen vs ++ ys))
  part_then seen rows old mid new ws vs ys w e f =
      parts_then rows old mid new (map seen vs) ys (e ∙ ap (λ us. with_all_new_within n same old (flat_map rows (map seen us))) w) f

  -- a table within the limit has all rows
  pub all_rows : {X : Type 0} (f : X → Y) (new : List X) (rows : List Y) (size : ℕ) → map f new ≡ with_all_new_within n same [] rows → size ≡ length new → size ≤ n → map f new ≡ with_all_new same [] rows
  all_rows f new rows size e s le = let l = length-map new f in first_rows n same rows (map f new) e (omega (arith, l, s, le))

  -- where the table exceeds the limit, there are too many rows
  pub more_rows : {X : Type 0} (f : X → Y) (new : List X) (rows : List Y) (size : ℕ) → map f new ≡ with_all_new_within n same [] rows → size ≡ length new → n < size → n < length (with_all_new same [] rows)
  more_rows f new rows size e s lt = let l = length-map new f in too_many_rows n same rows (map f new) e (omega (arith, l, s, lt))

-- the number of a row, from its place among the values of the program
pub number_of : {X Y : Type 0} (f : X → Y) (same : Y → Y → Bool) (xs : List X) (x : X) (place : Option ℕ) (n : ℕ) → place ≡ position (λ y. same (f x) (f y)) xs → n ≡ unwrap_or place 0 → n ≡ row_number same (map f xs) (f x)
number_of f same xs x place n e m = m ∙ ap (λ o. unwrap_or o 0) (e ∙ position-map f (same (f x)) xs)
