-- The tests and actions of tables, over stores.
use Rattle.std.proofs.Common.{◌≡◌, ℕ, suc, ◌+◌, ◌<◌, inl, inr, ◌↔◌, List, [], ◌∷◌, ◌++◌, length, map, refl, sym, ap, ◌∙◌, subst, arith, length-append, Bool, false, not, ◌&&◌, ◌||◌, slice_get, set, Some, unwrap_or, option_map}
use mathlib.Core.Path.{ap₂}
use Rattle.std.specs.List.{range_with_len}
use Rattle.std.proofs.lemmas.List.{length-map, length-set}
use Rattle.std.proofs.lemmas.List.FromFn.{get_or-range_with_len, length-range_with_len, length-map-range_with_len}
use Rattle.std.proofs.lemmas.Option.{slice_get-map, slice_get-get_or, get_or_from_slice_get}
use Rattle.kat_model.specs.Members.{Has, IsSubset}
use Rattle.kat_model.specs.Trees.{bottom, prim, complement}
use Rattle.kat_model.specs.Steps.{Atom, truth}
use Rattle.kat_model.specs.Expressions.{ExprTree, CondTree, always, never, named, compared, negation, both, either}
use Rattle.kat_model.specs.Stores.{modulus, Store, value}
use Rattle.kat_model.specs.Relations.{Frame}
use Rattle.kat_model.proofs.Lists.{has_left, has_right}
use Rattle.kat_model.proofs.Places.{slice_get-append_left}
use Rattle.linear_forms.specs.Values.{form_value}
use Rattle.linear_forms.specs.Arithmetic.{normal_form}
use Rattle.linear_forms.specs.Comparisons.{atomic_holds, cond_form_holds, comparison_form}
use Rattle.linear_forms.specs.declared.comparison.Atomic.{Atomic}
use Rattle.linear_forms.specs.declared.comparison.CondForm.{CondForm}
use Rattle.linear_forms.specs.declared.comparison.CondForm.TheVariants.{True, False, Pos, Neg}
use Rattle.linear_forms.proofs.StoredValues.{value_below, form_value-normal_form}
use Rattle.linear_forms.proofs.Truths.{comparison_form_holds}
use Rattle.while_lang.specs.Programs.{ProgTree, empty, skip_then, abort_then, assert_then, act_then, assign_then, branch_then, loop_then}
use Rattle.while_lang.proofs.StoreValues.{set_is_store}
use Rattle.while_lang.specs.Files.{FileParts}
use Rattle.while_lang.specs.Concrete.{IsStoreOf}
use Rattle.while_lang.specs.Ranges.{IsCondInRange, IsProgInRange}
use Rattle.abstraction.specs.Abstracts.{test_rows_of, action_rows_of}
use Rattle.abstraction.specs.Comparisons.{Assignment, atomics, cond_comparisons, prog_comparisons, prog_assignments}
use Rattle.abstraction.specs.StoreFrames.{row_holds, Sets}
use Rattle.linear_forms.specs.Sameness.{is_same_comparison}
use Rattle.abstraction.specs.Tables.{Tables, is_same_assignment}
use Rattle.abstraction.specs.Tests.{test_number, form_test, assignment_action}
use Rattle.abstraction.specs.declared.rows.ActionRow.TheVariants as action
use Rattle.abstraction.specs.declared.rows.TestRow.{TestRow}
use Rattle.abstraction.specs.declared.rows.TestRow.TheVariants as test
use Rattle.linear_forms.proofs.Sameness.{is_same_comparison-true, is_same_comparison-same}
use Rattle.abstraction.proofs.SameRows.{is_same_assignment-true, is_same_assignment-same}
use Rattle.kat_model.proofs.MemberPlaces.{position_of_member}
use Rattle.abstraction.proofs.ProgramRuns.{IsCondRead, IsAssignRead, IsProgRead}

-- ---- rows: the declared ones, and then those of a list

slice_get-append_add : {X : Type 0} (xs ys : List X) (k : ℕ) → slice_get (xs ++ ys) (length xs + k) ≡ slice_get ys k
slice_get-append_add [] ys k = ap (slice_get ys) (omega arith)
slice_get-append_add (x ∷ xs) ys k =
    let next : length (x ∷ xs) + k ≡ suc (length xs + k) = omega arith in
    ap (slice_get (x ∷ xs ++ ys)) next ∙ slice_get-append_add xs ys k

module _ {X Y : Type 0} (declared : ℕ → Y) (represents : X → Y) (n : ℕ) (xs : List X) where
  declared_row : (k : ℕ) → k < n → slice_get (map declared (range_with_len 0 n) ++ map represents xs) k ≡ Some (declared k)
  declared_row k lt =
      slice_get-append_left (map declared (range_with_len 0 n)) (map represents xs) k (rw (length-map-range_with_len declared 0 n) lt)
      ∙ slice_get-map declared (range_with_len 0 n) k
      ∙ ap (option_map declared) (slice_get-get_or (range_with_len 0 n) k 0 (rw (length-range_with_len 0 n) lt))
      ∙ ap (λ i. Some (declared i)) (get_or-range_with_len 0 n k 0 lt ∙ omega arith)

  later_row : (k : ℕ) (x : X) → slice_get xs k ≡ Some x → slice_get (map declared (range_with_len 0 n) ++ map represents xs) (n + k) ≡ Some (represents x)
  later_row k x e =
      ap (λ i. slice_get (map declared (range_with_len 0 n) ++ map represents xs) (i + k)) (sym (length-map-range_with_len declared 0 n))
      ∙ slice_get-append_add (map declared (range_with_len 0 n)) (map represents xs) k
      ∙ slice_get-map represents xs k
      ∙ ap (option_map represents) e

  pub length-rows : length (map declared (range_with_len 0 n) ++ map represents xs) ≡ n + length xs
  length-rows = length-append (map declared (range_with_len 0 n)) (map represents xs) ∙ rw (length-map-range_with_len declared 0 n, length-map xs represents) refl

-- ---- stores as a frame, by tables

abbrev pub tables_with : FileParts → List Atomic → List Assignment → Tables
tables_with f cs xs = record { tests = f.tests; actions = f.actions; comparisons = cs; assignments = xs; width = f.width }

abbrev pub frame_with : FileParts → List Atomic → List Assignment → Frame Store
frame_with f cs xs = record {
  IsState = IsStoreOf f;
  atom = λ s. map (row_holds (modulus f.width) s) (test_rows_of (tables_with f cs xs));
  Acts = λ k s t. Sets (modulus f.width) (slice_get (action_rows_of (tables_with f cs xs)) k) s t;
}

-- the assignment of an expression, in normal form
abbrev pub assigned : FileParts → ℕ → ExprTree → Assignment
assigned f x e = record { var = x; form = normal_form (modulus f.width) e }

-- if a concatenation is a subset of a list, so are its parts

pub two_within : {X : Type 0} (xs ys all : List X) → IsSubset (xs ++ ys) all → IsSubset xs all × IsSubset ys all
two_within xs ys all within = ((λ x h. within x (has_left xs ys x h)), (λ x h. within x (has_right xs ys x h)))

pub three_within : {X : Type 0} (xs ys zs all : List X) → IsSubset (xs ++ ys ++ zs) all → IsSubset xs all × IsSubset ys all × IsSubset zs all
three_within xs ys zs all within =
    let front = two_within (xs ++ ys) zs all within in
    let both = two_within xs ys all front.0 in
    (both.0, both.1, front.1)

-- rows of tests with any truth values that are those of the comparisons
module _ (f : FileParts) (cs : List Atomic) (xs : List Assignment) (truths : Store → TestRow → Bool) (compares : (s : Store) (a : Atomic) → truths s (test.Compare a) ≡ atomic_holds (modulus f.width) s a) where
  -- the truth values of the tests in a store
  abbrev atom_of : Store → Atom
  atom_of s = map (truths s) (test_rows_of (tables_with f cs xs))

  row_truth : (s : Store) (k : ℕ) (r : TestRow) → slice_get (test_rows_of (tables_with f cs xs)) k ≡ Some r → truth (prim k) (atom_of s) ≡ truths s r
  row_truth s k r e =
      get_or_from_slice_get (atom_of s) k (truths s r) false (slice_get-map (truths s) (test_rows_of (tables_with f cs xs)) k ∙ ap (option_map (truths s)) e)

  -- the truth value of a declared test
  pub named_truth : (s : Store) (k : ℕ) → k < f.tests → truth (prim k) (atom_of s) ≡ truths s (test.Named k)
  named_truth s k lt = row_truth s k (test.Named k) (declared_row test.Named test.Compare f.tests cs k lt)

  -- the test of a comparison in the table holds exactly when the comparison does
  comparison_truth : (a : Atomic) → Has cs a → (k : ℕ) × (test_number (tables_with f cs xs) a ≡ Some k) × ((s : Store) → truth (prim k) (atom_of s) ≡ atomic_holds (modulus f.width) s a)
  comparison_truth a h =
      let p = position_of_member is_same_comparison is_same_comparison-true is_same_comparison-same cs a h in
      (f.tests + p.0, ap (option_map (λ k. f.tests + k)) p.1, (λ s. row_truth s (f.tests + p.0) (test.Compare a) (later_row test.Named test.Compare f.tests cs p.0 a p.2) ∙ compares s a))

  pub form_truth : (s : Store) (b : CondForm) → IsSubset (atomics b) cs → truth (unwrap_or (form_test (tables_with f cs xs) b) bottom) (atom_of s) ≡ cond_form_holds (modulus f.width) s b
  form_truth s True all = refl
  form_truth s False all = refl
  form_truth s (Pos a) all =
      let p = comparison_truth a (all a (inl refl)) in
      ap (λ o. truth (unwrap_or (option_map prim o) bottom) (atom_of s)) p.1 ∙ p.2 s
  form_truth s (Neg a) all =
      let p = comparison_truth a (all a (inl refl)) in
      ap (λ o. truth (unwrap_or (option_map (λ k. complement (prim k)) o) bottom) (atom_of s)) p.1 ∙ ap not (p.2 s)

module _ (f : FileParts) (cs : List Atomic) (xs : List Assignment) where
  pub cond_read : (b : CondTree) → IsCondInRange f.tests f.vars b → IsSubset (cond_comparisons (modulus f.width) b) cs → IsCondRead f.width (tables_with f cs xs) (frame_with f cs xs) b
  cond_read always range all s is = refl
  cond_read never range all s is = refl
  cond_read (named k) range all s is = named_truth f cs xs (row_holds (modulus f.width)) (λ u a. refl) s k range
  cond_read (compared rel d e) range all s is = form_truth f cs xs (row_holds (modulus f.width)) (λ u a. refl) s (comparison_form (modulus f.width) rel d e) all ∙ comparison_form_holds f.width s rel d e is.1
  cond_read (negation b) range all s is = ap not (cond_read b range all s is)
  cond_read (both b c) range all s is =
      let parts = two_within (cond_comparisons (modulus f.width) b) (cond_comparisons (modulus f.width) c) cs all in
      ap₂ ◌&&◌ (cond_read b range.0 parts.0 s is) (cond_read c range.1 parts.1 s is)
  cond_read (either b c) range all s is =
      let parts = two_within (cond_comparisons (modulus f.width) b) (cond_comparisons (modulus f.width) c) cs all in
      ap₂ ◌||◌ (cond_read b range.0 parts.0 s is) (cond_read c range.1 parts.1 s is)

  -- the row of an assignment in the table
  pub assigned_row : (x : ℕ) (e : ExprTree) → Has xs (assigned f x e)
      → slice_get (action_rows_of (tables_with f cs xs)) (assignment_action (tables_with f cs xs) (assigned f x e)) ≡ Some (action.Assign x (normal_form (modulus f.width) e))
  assigned_row x e h =
      let p = position_of_member is_same_assignment is_same_assignment-true is_same_assignment-same xs (assigned f x e) h in
      ap (λ o. slice_get (action_rows_of (tables_with f cs xs)) (unwrap_or (option_map (λ k. f.actions + k) o) 0)) p.1
      ∙ later_row action.Named (λ b. action.Assign b.var b.form) f.actions xs p.0 (assigned f x e) p.2

  -- the row of a declared action
  pub named_row : (a : ℕ) → a < f.actions → slice_get (action_rows_of (tables_with f cs xs)) a ≡ Some (action.Named a)
  named_row a lt = declared_row action.Named (λ b. action.Assign b.var b.form) f.actions xs a lt

  -- an assignment leads to a store of the file
  pub assigned_store : (x : ℕ) (e : ExprTree) (s : Store) → IsStoreOf f s → IsStoreOf f (set s x (value f.width s e))
  assigned_store x e s is = (length-set s x (value f.width s e) ∙ is.0, set_is_store f.width s x (value f.width s e) is.1 (value_below f.width s e is.1))

  -- the action of an assignment in the table sets the variable
  assign_read : (x : ℕ) (e : ExprTree) → Has xs (assigned f x e) → IsAssignRead f.width (tables_with f cs xs) (frame_with f cs xs) x e
  assign_read x e h s is = (assigned_store x e s is, acts)
    where
      same : form_value (modulus f.width) s (normal_form (modulus f.width) e) ≡ value f.width s e
      same = form_value-normal_form f.width s e is.1

      acts : (u : Store) → Sets (modulus f.width) (slice_get (action_rows_of (tables_with f cs xs)) (assignment_action (tables_with f cs xs) (assigned f x e))) s u ↔ (u ≡ set s x (value f.width s e))
      acts u = (
        (λ m. subst (λ o. Sets (modulus f.width) o s u) (assigned_row x e h) m ∙ ap (set s x) same),
        (λ m. subst (λ o. Sets (modulus f.width) o s u) (sym (assigned_row x e h)) (m ∙ ap (set s x) (sym same))),
      )

  pub prog_read : (p : ProgTree) → IsProgInRange f.tests f.actions f.vars p → IsSubset (prog_comparisons (modulus f.width) p) cs → IsSubset (prog_assignments (modulus f.width) p) xs →
      IsProgRead f.width (tables_with f cs xs) (frame_with f cs xs) p
  prog_read empty range tests acts = tt
  prog_read (skip_then rest) range tests acts = prog_read rest range tests acts
  prog_read (abort_then rest) range tests acts = prog_read rest range tests acts
  prog_read (assert_then b rest) range tests acts =
      let parts = two_within (cond_comparisons (modulus f.width) b) (prog_comparisons (modulus f.width) rest) cs tests in
      (cond_read b range.0 parts.0, prog_read rest range.1 parts.1 acts)
  prog_read (act_then a rest) range tests acts =
      ((λ s u m. subst (λ o. Sets (modulus f.width) o s u) (named_row a range.0) m), prog_read rest range.1 tests acts)
  prog_read (assign_then x e rest) range tests acts =
      (assign_read x e (acts (assigned f x e) (inl refl)), prog_read rest range.2 tests (λ a h. acts a (inr h)))
  prog_read (branch_then b p q rest) range tests acts =
      let m = modulus f.width in
      let seen = two_within (cond_comparisons m b ++ prog_comparisons m p ++ prog_comparisons m q) (prog_comparisons m rest) cs tests in
      let parts = three_within (cond_comparisons m b) (prog_comparisons m p) (prog_comparisons m q) cs seen.0 in
      let set = three_within (prog_assignments m p) (prog_assignments m q) (prog_assignments m rest) xs acts in
      (cond_read b range.0 parts.0, prog_read p range.1 parts.1 set.0, prog_read q range.2 parts.2 set.1, prog_read rest range.3 seen.1 set.2)
  prog_read (loop_then b p rest) range tests acts =
      let m = modulus f.width in
      let parts = three_within (cond_comparisons m b) (prog_comparisons m p) (prog_comparisons m rest) cs tests in
      let set = two_within (prog_assignments m p) (prog_assignments m rest) xs acts in
      (cond_read b range.0 parts.0, prog_read p range.1 parts.1 set.0, prog_read rest range.2 parts.2 set.1)
