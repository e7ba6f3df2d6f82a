-- The tests of conditions and the flows of programs, over tables, use only the numbers of the rows.
use Rattle.std.proofs.Common.{◌≡◌, ℕ, ◌+◌, ◌<◌, Bool, true, false, cond, nat_lt, List, ◌++◌, length, Option, Some, None, option_map, unwrap_or, refl, arith}
use Rattle.std.specs.List.{position, position_or_len}
use Rattle.std.proofs.lemmas.List.{length-append}
use Rattle.std.proofs.lemmas.Bool.{ltb-true}
use Rattle.kat_model.specs.Trees.{TestTree, bottom, prim, complement}
use Rattle.kat_model.specs.Problems.{IsTestInRange, IsInRange, AreInRange}
use Rattle.kat_model.specs.Expressions.{CondTree, always, never, named, compared, negation, both, either}
use Rattle.kat_model.specs.Stores.{modulus}
use Rattle.kat_model.proofs.Ranges.{IsInRange-product_of}
use Rattle.linear_forms.specs.Arithmetic.{normal_form}
use Rattle.linear_forms.specs.Comparisons.{comparison_form}
use Rattle.linear_forms.specs.declared.comparison.CondForm.{CondForm}
use Rattle.linear_forms.specs.declared.comparison.CondForm.TheVariants.{True, False, Pos, Neg}
use Rattle.while_lang.specs.Programs.{ProgTree, empty, skip_then, abort_then, assert_then, act_then, assign_then, branch_then, loop_then}
use Rattle.while_lang.specs.Encoding.{stmt_terms, encoded}
use Rattle.while_lang.specs.Ranges.{IsCondInRange, IsProgInRange}
use Rattle.abstraction.specs.Comparisons.{Assignment, prog_assignments}
use Rattle.linear_forms.specs.Sameness.{is_same_comparison}
use Rattle.abstraction.specs.Tables.{Tables, is_same_assignment}
use Rattle.abstraction.specs.Tests.{test_number, action_number, form_test, cond_test, assignment_action, prog_flow}

-- the number, if there is one, is below n
abbrev pub OptionBelow : ℕ → Option ℕ → Type 0
OptionBelow n None = Unit {0}
OptionBelow n (Some k) = k < n

position_below : {X : Type 0} (p : X → Bool) (xs : List X) (n : ℕ) → OptionBelow (n + length xs) (option_map (λ k. n + k) (position p xs))
position_below p xs n = by_place (nat_lt (position_or_len p xs) (length xs)) refl
  where
    by_place : (b : Bool) → nat_lt (position_or_len p xs) (length xs) ≡ b → OptionBelow (n + length xs) (option_map (λ k. n + k) (cond b (Some (position_or_len p xs)) None))
    by_place true e = omega (arith, ltb-true (position_or_len p xs) (length xs) e)
    by_place false e = tt

-- the test, if there is one, has its numbers below n
abbrev pub OptionInRange : ℕ → Option TestTree → Type 0
OptionInRange n None = Unit {0}
OptionInRange n (Some b) = IsTestInRange n b

prim_in : (n : ℕ) (o : Option ℕ) → OptionBelow n o → OptionInRange n (option_map prim o)
prim_in n None h = tt
prim_in n (Some k) h = h

complement_in : (n : ℕ) (o : Option ℕ) → OptionBelow n o → OptionInRange n (option_map (λ k. complement (prim k)) o)
complement_in n None h = tt
complement_in n (Some k) h = h

or_bottom : (n : ℕ) (o : Option TestTree) → OptionInRange n o → IsTestInRange n (unwrap_or o bottom)
or_bottom n None h = tt
or_bottom n (Some b) h = h

or_zero : (n : ℕ) (o : Option ℕ) → OptionBelow n o → 0 < n → unwrap_or o 0 < n
or_zero n None h some = some
or_zero n (Some k) h some = h

module _ (t : Tables) where
  abbrev pub all_tests : ℕ
  all_tests = t.tests + length t.comparisons

  abbrev pub all_actions : ℕ
  all_actions = t.actions + length t.assignments

  pub form_test_in : (b : CondForm) → OptionInRange all_tests (form_test t b)
  form_test_in True = tt
  form_test_in False = tt
  form_test_in (Pos a) = prim_in all_tests (test_number t a) (position_below (is_same_comparison a) t.comparisons t.tests)
  form_test_in (Neg a) = complement_in all_tests (test_number t a) (position_below (is_same_comparison a) t.comparisons t.tests)

  module _ (vars : ℕ) where
    pub cond_test_in : (b : CondTree) → IsCondInRange t.tests vars b → IsTestInRange all_tests (cond_test t b)
    cond_test_in always h = tt
    cond_test_in never h = tt
    cond_test_in (named k) h = omega arith
    cond_test_in (compared rel e f) h =
        let form = comparison_form (modulus t.width) rel e f in
        or_bottom all_tests (form_test t form) (form_test_in form)
    cond_test_in (negation b) h = cond_test_in b h
    cond_test_in (both b c) h = (cond_test_in b h.0, cond_test_in c h.1)
    cond_test_in (either b c) h = (cond_test_in b h.0, cond_test_in c h.1)

    action_in : (a : Assignment) → 0 < length t.assignments → assignment_action t a < all_actions
    action_in a some = or_zero all_actions (action_number t a) (position_below (is_same_assignment a) t.assignments t.actions) (omega arith)

    -- the table has an assignment if the program has one
    abbrev pub HasSome : ProgTree → Type 0
    HasSome p = 0 < length (prog_assignments (modulus t.width) p) → 0 < length t.assignments

    pub flow_terms_in : (p : ProgTree) → IsProgInRange t.tests t.actions vars p → HasSome p → AreInRange all_tests all_actions (stmt_terms (prog_flow t p))
    flow_terms_in empty h some = tt
    flow_terms_in (skip_then rest) h some = (tt, flow_terms_in rest h some)
    flow_terms_in (abort_then rest) h some = (tt, flow_terms_in rest h some)
    flow_terms_in (assert_then b rest) h some = (cond_test_in b h.0, flow_terms_in rest h.1 some)
    flow_terms_in (act_then a rest) h some = (omega (arith, h.0), flow_terms_in rest h.1 some)
    flow_terms_in (assign_then x e rest) h some =
        (action_in (record { var = x; form = normal_form (modulus t.width) e }) (some (omega arith)), flow_terms_in rest h.2 (λ k. some (omega arith)))
    flow_terms_in (branch_then b p q rest) h some =
        let m = modulus t.width in
        let first = prog_assignments m p in
        let second = prog_assignments m q in
        let c = cond_test_in b h.0 in
        let both_blocks = length-append first second in
        let whole = length-append (first ++ second) (prog_assignments m rest) in
        let e = IsInRange-product_of all_tests all_actions _ (flow_terms_in p h.1 (λ k. some (omega (arith, both_blocks, whole)))) in
        let f = IsInRange-product_of all_tests all_actions _ (flow_terms_in q h.2 (λ k. some (omega (arith, both_blocks, whole)))) in
        (((c, e), (c, f)), flow_terms_in rest h.3 (λ k. some (omega (arith, whole))))
    flow_terms_in (loop_then b p rest) h some =
        let m = modulus t.width in
        let c = cond_test_in b h.0 in
        let lengths = length-append (prog_assignments m p) (prog_assignments m rest) in
        let e = IsInRange-product_of all_tests all_actions _ (flow_terms_in p h.1 (λ k. some (omega (arith, lengths)))) in
        (((c, e), c), flow_terms_in rest h.2 (λ k. some (omega (arith, lengths))))

    pub encoded_in : (p : ProgTree) → IsProgInRange t.tests t.actions vars p → HasSome p → IsInRange all_tests all_actions (encoded (prog_flow t p))
    encoded_in p h some = IsInRange-product_of all_tests all_actions (stmt_terms (prog_flow t p)) (flow_terms_in p h some)
