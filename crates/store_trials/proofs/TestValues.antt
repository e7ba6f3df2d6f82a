-- The tests of a store are compared with an atom one by one.
use Rattle.std.proofs.Common.{◌≡◌, ℕ, suc, List, [], ◌∷◌, length, Bool, true, false, ◌&&◌, refl, sym, ap, ◌∙◌}
use Rattle.std.proofs.lemmas.List.{nil_from_length}
use Rattle.kat_model.specs.Stores.{Store}
use Rattle.kat_model.specs.Steps.{Atom}
use Rattle.abstraction.specs.declared.rows.TestRow.{TestRow}
use Rattle.abstraction.specs.StoreFrames.{row_holds}
use Rattle.store_trials.specs.Following.{is_value, has_values}

and_false : (b : Bool) → (b && false) ≡ false
and_false true = refl
and_false false = refl

module _ (m : ℕ) (s : Store) where
  -- no atom of another length
  pub unlike_lengths : (rows : List TestRow) (bs : Atom) → (length rows ≡ length bs → ⊥) → has_values m s rows bs ≡ false
  unlike_lengths [] [] other = absurd (other refl)
  unlike_lengths [] (b ∷ bs) other = refl
  unlike_lengths (row ∷ rows) [] other = refl
  unlike_lengths (row ∷ rows) (b ∷ bs) other =
      ap (λ (c : Bool). is_value b (row_holds m s row) && c) (unlike_lengths rows bs (λ e. other (ap suc e))) ∙ and_false (is_value b (row_holds m s row))

  -- another test, by the rest of both lists
  module _ (all rows : List TestRow) (row : TestRow) (atom bs : Atom) (b result value : Bool) (is_row : all ≡ row ∷ rows) (is_value_here : atom ≡ b ∷ bs) (tested : value ≡ is_value b (row_holds m s row)) (so_far : has_values m s all atom ≡ result) where
    opened : (value && has_values m s rows bs) ≡ result
    opened =
        ap (λ (c : Bool). c && has_values m s rows bs) tested
        ∙ sym (ap (λ (rs : List TestRow). has_values m s rs atom) is_row ∙ ap (λ (cs : Atom). has_values m s (row ∷ rows) cs) is_value_here) ∙ so_far

    pub value_fails : value ≡ false → false ≡ result
    value_fails e = sym (ap (λ (c : Bool). c && has_values m s rows bs) e) ∙ opened

    pub value_kept : value ≡ true → has_values m s rows bs ≡ result
    value_kept e = sym (ap (λ (c : Bool). c && has_values m s rows bs) e) ∙ opened

    pub lengths_kept : length all ≡ length atom → length rows ≡ length bs
    lengths_kept e = let longer : suc (length rows) ≡ suc (length bs) = sym (ap length is_row) ∙ e ∙ ap length is_value_here in cc

  -- no test is left, or no value
  pub no_test_left : (rows : List TestRow) (bs : Atom) (result : Bool) → length rows ≡ 0 → length rows ≡ length bs → has_values m s rows bs ≡ result → true ≡ result
  no_test_left rows bs result none same so_far =
      sym (ap (λ (rs : List TestRow). has_values m s rs bs) (nil_from_length rows none) ∙ ap (λ (cs : Atom). has_values m s [] cs) (nil_from_length bs (sym same ∙ none))) ∙ so_far

  pub no_value_left : (rows : List TestRow) (bs : Atom) (result : Bool) → length bs ≡ 0 → length rows ≡ length bs → has_values m s rows bs ≡ result → true ≡ result
  no_value_left rows bs result none same so_far = no_test_left rows bs result (same ∙ none) same so_far
