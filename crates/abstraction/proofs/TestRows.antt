-- Tests whose truth values are those of the comparisons of a table.
use Rattle.std.proofs.Common.{◌≡◌, ◌<◌, ◌+◌, ℕ, slice_index_or, length, All, true, false, not, IsTrue, Option, Some, None, option_map, position, refl, sym, ap, ◌∙◌, subst}
use Rattle.std.proofs.lemmas.Bool.{not-true}
use Rattle.std.proofs.lemmas.Option.{same_Some}
use Rattle.std.proofs.lemmas.List.Quantifiers.{position-Some}
use Rattle.std.proofs.lemmas.List.FromFn.{length-enumerate_from, get_or-enumerate_from}
use Rattle.kat_model.specs.Trees.{TestTree, bottom, top, prim, complement}
use Rattle.kat_model.specs.Stores.{Store}
use Rattle.kat_model.specs.Steps.{Atom, truth}
use Rattle.linear_forms.specs.Comparisons.{IsAtomic, atomic_holds, cond_form_holds}
use Rattle.linear_forms.specs.declared.comparison.Atomic.{Atomic}
use Rattle.linear_forms.specs.declared.comparison.CondForm.{CondForm}
use Rattle.linear_forms.specs.declared.comparison.CondForm.TheVariants.{True, False, Pos, Neg}
use Rattle.linear_forms.specs.Sameness.{is_same_comparison}
use Rattle.abstraction.specs.Tables.{Tables}
use Rattle.abstraction.specs.Tests.{test_number, form_test}
use Rattle.abstraction.specs.Facts.{TestRowOf}
use Rattle.abstraction.specs.Derived.{test_rows}
use Rattle.linear_forms.proofs.Sameness.{is_same_comparison-true}

-- a row of a comparison: its forms are well formed, and the test with its number is true exactly when the comparison
-- holds
pub record IsTestRow (m : ℕ) (atom : Store → Atom) (row : TestRowOf) : Type 0 where
  pub form : IsAtomic m row.1
  pub truth : (s : Store) → slice_index_or (atom s) row.0 false ≡ atomic_holds m s row.1

module _ (m : ℕ) (atom : Store → Atom) where
  pub holds_at : (i : ℕ) (a : Atomic) → IsTestRow m atom (i, a) → (s : Store) → IsTrue (truth (prim i) (atom s)) → atomic_holds m s a ≡ true
  holds_at i a row s t = sym (row.truth s) ∙ t

  pub fails_at : (i : ℕ) (a : Atomic) → IsTestRow m atom (i, a) → (s : Store) → IsTrue (truth (complement (prim i)) (atom s)) → atomic_holds m s a ≡ false
  fails_at i a row s t = sym (row.truth s) ∙ not-true _ t

  module _ (t : Tables) (rows : All (IsTestRow m atom) (test_rows t)) where
    -- the test with the number of a comparison is true exactly when the comparison holds
    pub test_number_holds : (a : Atomic) (n : ℕ) → test_number t a ≡ Some n → (s : Store) → slice_index_or (atom s) n false ≡ atomic_holds m s a
    test_number_holds a n e s = by_place (position (is_same_comparison a) t.comparisons) refl e
      where
        by_place : (r : Option ℕ) → position (is_same_comparison a) t.comparisons ≡ r → option_map (λ k. t.tests + k) r ≡ Some n → slice_index_or (atom s) n false ≡ atomic_holds m s a
        by_place None p q = absurd cc
        by_place (Some k) p q =
            let found = position-Some (is_same_comparison a) t.comparisons k a p in
            let there : k < length (test_rows t) = subst (λ l. k < l) (sym (length-enumerate_from t.tests t.comparisons)) found.0 in
            let row = subst (IsTestRow m atom) (get_or-enumerate_from t.tests t.comparisons k (0, a) found.0) (rows k (0, a) there) in
            ap (λ i. slice_index_or (atom s) i false) (sym (same_Some (t.tests + k) n q))
            ∙ row.truth s
            ∙ ap (atomic_holds m s) (sym (is_same_comparison-true a _ found.1))

    -- the test of a condition form holds exactly when the condition does
    pub form_test_holds : (b : CondForm) (psi : TestTree) → form_test t b ≡ Some psi → (s : Store) → truth psi (atom s) ≡ cond_form_holds m s b
    form_test_holds True psi e s = ap (λ x. truth x (atom s)) (sym (same_Some top psi e))
    form_test_holds False psi e s = ap (λ x. truth x (atom s)) (sym (same_Some bottom psi e))
    form_test_holds (Pos a) psi e s = by_number (test_number t a) refl e
      where
        by_number : (r : Option ℕ) → test_number t a ≡ r → option_map prim r ≡ Some psi → truth psi (atom s) ≡ atomic_holds m s a
        by_number None p q = absurd cc
        by_number (Some n) p q = ap (λ x. truth x (atom s)) (sym (same_Some (prim n) psi q)) ∙ test_number_holds a n p s
    form_test_holds (Neg a) psi e s = by_number (test_number t a) refl e
      where
        by_number : (r : Option ℕ) → test_number t a ≡ r → option_map (λ k. complement (prim k)) r ≡ Some psi → truth psi (atom s) ≡ not (atomic_holds m s a)
        by_number None p q = absurd cc
        by_number (Some n) p q = ap (λ x. truth x (atom s)) (sym (same_Some (complement (prim n)) psi q)) ∙ ap not (test_number_holds a n p s)
