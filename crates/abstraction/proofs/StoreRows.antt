-- The rows of a table in its frame of stores: tests are the truth of the comparisons, and actions are the assignments.
use Rattle.std.proofs.Common.{◌≡◌, ◌<◌, ◌+◌, ℕ, List, ◌++◌, length, map, get_or, slice_get, slice_index_or, set, All, Bool, false, Some, refl, sym, ap, ◌∙◌, subst, arith, length-append}
use Rattle.std.proofs.lemmas.List.{length-map, get_or-map, get_or-append_right}
use Rattle.std.proofs.lemmas.List.FromFn.{length-enumerate_from, get_or-enumerate_from, length-range_with_len}
use Rattle.std.proofs.lemmas.List.Elements.{All-get_or}
use Rattle.std.proofs.lemmas.Option.{slice_get-get_or}
use Rattle.std.specs.List.{range_with_len}
use Rattle.kat_model.specs.Stores.{Store}
use Rattle.kat_model.specs.Relations.{Frame}
use Rattle.linear_forms.specs.Forms.{FormTree}
use Rattle.linear_forms.specs.Values.{form_value}
use Rattle.linear_forms.specs.Comparisons.{IsAtomic, atomic_holds}
use Rattle.linear_forms.specs.declared.comparison.Atomic.{Atomic}
use Rattle.abstraction.specs.declared.rows.ActionRow.TheVariants as action
use Rattle.abstraction.specs.declared.rows.TestRow.{TestRow}
use Rattle.abstraction.specs.declared.rows.TestRow.TheVariants as test
use Rattle.abstraction.specs.Comparisons.{Assignment}
use Rattle.abstraction.specs.Tables.{Tables}
use Rattle.abstraction.specs.Derived.{test_rows, action_rows}
use Rattle.abstraction.specs.Abstracts.{test_rows_of, action_rows_of}
use Rattle.abstraction.specs.StoreFrames.{row_holds}
use Rattle.abstraction.proofs.TableForms.{IsAssignment}
use Rattle.abstraction.proofs.TestRows.{IsTestRow}
use Rattle.abstraction.proofs.AssignmentFacts.{IsActionRow}

-- the rows after the declared ones
after_declared : {X : Type 0} (declared rows : List X) (n k : ℕ) (d : X) → length declared ≡ n → get_or (declared ++ rows) (n + k) d ≡ get_or rows k d
after_declared declared rows n k d e = get_or-append_right declared rows n (n + k) d e (omega arith) ∙ ap (λ i. get_or rows i d) (omega arith)

module _ (m : ℕ) (t : Tables) where
  compared_row : (k : ℕ) (d : Atomic) → k < length t.comparisons → get_or (test_rows_of t) (t.tests + k) (test.Compare d) ≡ test.Compare (get_or t.comparisons k d)
  compared_row k d l =
      after_declared (map test.Named (range_with_len 0 t.tests)) (map test.Compare t.comparisons) t.tests k (test.Compare d)
      (length-map (range_with_len 0 t.tests) test.Named ∙ length-range_with_len 0 t.tests)
      ∙ get_or-map test.Compare t.comparisons k d (test.Compare d) l

  test_row_within : (k : ℕ) → k < length t.comparisons → t.tests + k < length (test_rows_of t)
  test_row_within k l =
      omega (
        arith,
        length-append (map test.Named (range_with_len 0 t.tests)) (map test.Compare t.comparisons),
        length-map (range_with_len 0 t.tests) test.Named,
        length-range_with_len 0 t.tests,
        length-map t.comparisons test.Compare,
      )

  -- rows of tests with any truth values that are those of the comparisons
  module _ (truths : Store → TestRow → Bool) (compares : (s : Store) (a : Atomic) → truths s (test.Compare a) ≡ atomic_holds m s a) where
    -- the truth value at the number of a comparison
    compared_truth : (s : Store) (k : ℕ) (d : Atomic) → k < length t.comparisons
        → slice_index_or (map (truths s) (test_rows_of t)) (t.tests + k) false ≡ atomic_holds m s (get_or t.comparisons k d)
    compared_truth s k d l =
        get_or-map (truths s) (test_rows_of t) (t.tests + k) (test.Compare d) false (test_row_within k l)
        ∙ ap (truths s) (compared_row k d l)
        ∙ compares s (get_or t.comparisons k d)

    pub are_rows_with : All (IsAtomic m) t.comparisons → All (IsTestRow m (λ s. map (truths s) (test_rows_of t))) (test_rows t)
    are_rows_with atomic k d l =
        subst (IsTestRow m (λ s. map (truths s) (test_rows_of t))) (sym (get_or-enumerate_from t.tests t.comparisons k d within))
        (record { form = All-get_or (IsAtomic m) t.comparisons k d.1 within atomic; truth = λ s. compared_truth s k d.1 within })
      where
        within : k < length t.comparisons
        within = subst (λ n. k < n) (length-enumerate_from t.tests t.comparisons) l

  pub are_test_rows : All (IsAtomic m) t.comparisons → All (IsTestRow m (λ s. map (row_holds m s) (test_rows_of t))) (test_rows t)
  are_test_rows = are_rows_with (row_holds m) (λ s a. refl)

  assigned_row : (k : ℕ) (d : Assignment) → k < length t.assignments
      → slice_get (action_rows_of t) (t.actions + k) ≡ Some (action.Assign (get_or t.assignments k d).var (get_or t.assignments k d).form)
  assigned_row k d l =
      slice_get-get_or (action_rows_of t) (t.actions + k) (action.Assign d.var d.form) within
      ∙ ap Some
      (after_declared (map action.Named (range_with_len 0 t.actions)) (map (λ a. action.Assign a.var a.form) t.assignments) t.actions k (action.Assign d.var d.form)
      (length-map (range_with_len 0 t.actions) action.Named ∙ length-range_with_len 0 t.actions)
      ∙ get_or-map (λ a. action.Assign a.var a.form) t.assignments k d (action.Assign d.var d.form) l)
    where
      within : t.actions + k < length (action_rows_of t)
      within =
          omega (
            arith,
            length-append (map action.Named (range_with_len 0 t.actions)) (map (λ (a : Assignment). action.Assign a.var a.form) t.assignments),
            length-map (range_with_len 0 t.actions) action.Named,
            length-range_with_len 0 t.actions,
            length-map t.assignments (λ (a : Assignment). action.Assign a.var a.form),
          )

  pub are_action_rows : (frame : Frame Store) (vars : ℕ) → ((s : Store) → frame.IsState s → length s ≡ vars)
      → ((i x : ℕ) (g : FormTree) (s u : Store) → slice_get (action_rows_of t) i ≡ Some (action.Assign x g) → frame.Acts i s u → u ≡ set s x (form_value m s g))
      → All (IsAssignment m vars) t.assignments → All (IsActionRow m frame) (action_rows t)
  are_action_rows frame vars wide acts assigned k d l =
      subst (IsActionRow m frame) (sym (get_or-enumerate_from t.actions t.assignments k d within))
      (record {
        sets = λ s u state step. (
          subst (λ n. (get_or t.assignments k d.1).var < n) (sym (wide s state)) (All-get_or (IsAssignment m vars) t.assignments k d.1 within assigned).var,
          acts (t.actions + k) (get_or t.assignments k d.1).var (get_or t.assignments k d.1).form s u (assigned_row k d.1 within) step,
        );
      })
    where
      within : k < length t.assignments
      within = subst (λ n. k < n) (length-enumerate_from t.actions t.assignments) l
