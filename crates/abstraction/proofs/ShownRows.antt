-- Places among the rows of tables, and that reading the rows gives the tables back.
use Rattle.std.proofs.Common.{◌≡◌, ℕ, ◌+◌, List, [], ◌∷◌, ◌++◌, length, map, refl, sym, ap, ◌∙◌, arith, Ok, Err, Some, option_map, Bool, true, false, cond, nat_lt}
use Rattle.std.specs.List.{range_with_len, position, position_from}
use Rattle.std.proofs.lemmas.Iterator.Adapters.{position_from-zero}
use Rattle.std.proofs.lemmas.List.FromFn.{length-range_with_len}
use Rattle.kat_model.specs.declared.limits.TheConstants.{MAX_TESTS, MAX_ACTIONS, MAX_TERM_NODES}
use Rattle.kat_model.specs.Problems.{problem_size}
use Rattle.abstraction.specs.declared.fault.AbstractFault.{AbstractFault}
use Rattle.abstraction.specs.declared.fault.AbstractFault.TheVariants.{TooManyTests, TooManyActions, ProblemTooLarge}
use Rattle.linear_forms.specs.declared.comparison.Atomic.{Atomic}
use Rattle.while_lang.specs.Files.{FileParts}
use Rattle.abstraction.specs.declared.rows.ActionRow.{ActionRow}
use Rattle.abstraction.specs.declared.rows.ActionRow.TheVariants as action
use Rattle.abstraction.specs.declared.rows.TestRow.{TestRow}
use Rattle.abstraction.specs.declared.rows.TestRow.TheVariants as test
use Rattle.abstraction.specs.Comparisons.{Assignment}
use Rattle.abstraction.specs.Tables.{Tables, first_comparisons, file_assignments}
use Rattle.abstraction.specs.Rounds.{tables_of}
use Rattle.abstraction.specs.Abstracts.{AbstractParts, abstract_of, abstract_parts, file_problem}
use Rattle.abstraction.specs.ShownTables.{declared_tests, row_comparisons, declared_actions, row_assignments, shown_tables}

-- each row is declared or not
pub test_row_count : (rows : List TestRow) → declared_tests rows + length (row_comparisons rows) ≡ length rows
test_row_count [] = omega arith
test_row_count (test.Named k ∷ rows) = omega (arith, test_row_count rows)
test_row_count (test.Compare a ∷ rows) = omega (arith, test_row_count rows)

pub action_row_count : (rows : List ActionRow) → declared_actions rows + length (row_assignments rows) ≡ length rows
action_row_count [] = omega arith
action_row_count (action.Named k ∷ rows) = omega (arith, action_row_count rows)
action_row_count (action.Assign x f ∷ rows) = omega (arith, action_row_count rows)

-- a place counted from a number on
position_from-add : {X : Type 0} (p : X → Bool) (m n : ℕ) (xs : List X) → position_from p (m + n) xs ≡ option_map (λ k. m + k) (position_from p n xs)
position_from-add p m n [] = refl
position_from-add p m n (x ∷ xs) = by_test (p x) (position_from-add p m (n + 1) xs)
  where
    next : m + n + 1 ≡ m + (n + 1)
    next = omega arith

    by_test : (b : Bool) → position_from p (m + (n + 1)) xs ≡ option_map (λ k. m + k) (position_from p (n + 1) xs)
        → cond b (Some (m + n)) (position_from p (m + n + 1) xs) ≡ option_map (λ k. m + k) (cond b (Some n) (position_from p (n + 1) xs))
    by_test true later = refl
    by_test false later = ap (λ k. position_from p k xs) next ∙ later

pub position_from-position : {X : Type 0} (p : X → Bool) (n : ℕ) (xs : List X) → position_from p n xs ≡ option_map (λ k. n + k) (position p xs)
position_from-position p n xs =
    let own : n ≡ n + 0 = omega arith in
    ap (λ k. position_from p k xs) own ∙ position_from-add p n 0 xs ∙ ap (option_map (λ k. n + k)) (sym (position_from-zero p xs))

-- the rows of tables give the tables back
named_tests : (ks : List ℕ) (rows : List TestRow) → declared_tests (map test.Named ks ++ rows) ≡ length ks + declared_tests rows
named_tests [] rows = omega arith
named_tests (k ∷ ks) rows = omega (arith, named_tests ks rows)

named_comparisons : (ks : List ℕ) (rows : List TestRow) → row_comparisons (map test.Named ks ++ rows) ≡ row_comparisons rows
named_comparisons [] rows = refl
named_comparisons (k ∷ ks) rows = named_comparisons ks rows

compared_tests : (bs : List Atomic) → declared_tests (map test.Compare bs) ≡ 0
compared_tests [] = refl
compared_tests (a ∷ bs) = compared_tests bs

compared_rows : (bs : List Atomic) → row_comparisons (map test.Compare bs) ≡ bs
compared_rows [] = refl
compared_rows (a ∷ bs) = ap (λ l. a ∷ l) (compared_rows bs)

named_actions : (ks : List ℕ) (rows : List ActionRow) → declared_actions (map action.Named ks ++ rows) ≡ length ks + declared_actions rows
named_actions [] rows = omega arith
named_actions (k ∷ ks) rows = omega (arith, named_actions ks rows)

named_assignments : (ks : List ℕ) (rows : List ActionRow) → row_assignments (map action.Named ks ++ rows) ≡ row_assignments rows
named_assignments [] rows = refl
named_assignments (k ∷ ks) rows = named_assignments ks rows

abbrev assign_rows : List Assignment → List ActionRow
assign_rows xs = map (λ a. action.Assign a.var a.form) xs

assigned_actions : (xs : List Assignment) → declared_actions (assign_rows xs) ≡ 0
assigned_actions [] = refl
assigned_actions (a ∷ xs) = assigned_actions xs

assigned_rows : (xs : List Assignment) → row_assignments (assign_rows xs) ≡ xs
assigned_rows [] = refl
assigned_rows (a ∷ xs) = ap (λ l. a ∷ l) (assigned_rows xs)

same_tables : (t u : Tables) → t.tests ≡ u.tests → t.actions ≡ u.actions → t.comparisons ≡ u.comparisons → t.assignments ≡ u.assignments → t.width ≡ u.width → t ≡ u
same_tables t u a b c d e = λ i. record { tests = a i; actions = b i; comparisons = c i; assignments = d i; width = e i }

pub shown_tables-abstract_parts : (f : FileParts) → shown_tables (abstract_parts f) ≡ tables_of f
shown_tables-abstract_parts f =
    let t = tables_of f in
    let tests = range_with_len 0 t.tests in
    let actions = range_with_len 0 t.actions in
    same_tables (shown_tables (abstract_parts f)) t
    (omega (arith, named_tests tests (map test.Compare t.comparisons), compared_tests t.comparisons, length-range_with_len 0 t.tests))
    (omega (arith, named_actions actions (assign_rows t.assignments), assigned_actions t.assignments, length-range_with_len 0 t.actions))
    (named_comparisons tests (map test.Compare t.comparisons) ∙ compared_rows t.comparisons)
    (named_assignments actions (assign_rows t.assignments) ∙ assigned_rows t.assignments) refl

-- an abstraction is built from the tables
too_many : (b d e : Bool) (p a : AbstractParts) (x y z : AbstractFault) → cond b (Err x) (cond d (Err y) (cond e (Err z) (Ok p))) ≡ Ok a → p ≡ a
too_many true d e p a x y z h = absurd cc
too_many false true e p a x y z h = absurd cc
too_many false false true p a x y z h = absurd cc
too_many false false false p a x y z h = cc

pub shown_tables-abstract_of : (f : FileParts) (a : AbstractParts) → abstract_of f ≡ Ok a → shown_tables a ≡ tables_of f
shown_tables-abstract_of f a h =
    ap shown_tables (sym (too_many (nat_lt MAX_TESTS (f.tests + length (first_comparisons f))) (nat_lt MAX_ACTIONS (f.actions + length (file_assignments f)))
    (nat_lt MAX_TERM_NODES (problem_size (file_problem f))) (abstract_parts f) a TooManyTests TooManyActions ProblemTooLarge h))
    ∙ shown_tables-abstract_parts f
