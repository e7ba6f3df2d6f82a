-- Facts between tests relate no states, if each test is the truth of its comparison.
use Rattle.std.proofs.Common.{◌≡◌, ℕ, ◌+◌, ◌%◌, ◌<◌, Bool, true, false, ◌&&◌, nat_eq, nat_lt, IsTrue, List, map, slice_get, slice_index_or, Some, refl, sym, ◌∙◌, ap, arith, mod-eq_of_lt}
use mathlib.Core.Path.{ap₂}
use Rattle.std.proofs.lemmas.Bool.{not-true, and_parts, eqb-true, eqb-false, ltb-true, ltb-false}
use Rattle.std.proofs.lemmas.Nat.{mod_below}
use Rattle.kat_model.specs.Trees.{prim, complement, Term}
use Rattle.kat_model.specs.Steps.{truth}
use Rattle.kat_model.specs.Stores.{modulus}
use Rattle.kat_model.specs.Relations.{Frame}
use Rattle.kat_model.specs.declared.expression.Width.{Width}
use Rattle.kat_model.specs.declared.expression.Rel.TheVariants.{Eq, Lt}
use Rattle.linear_forms.proofs.StoredValues.{modulus_above_one}
use Rattle.flow_model.specs.declared.sort.Sort.{Sort}
use Rattle.flow_model.specs.Interpretations.{Interpretation}
use Rattle.flow_forms.specs.Forms.{FlowFormTree, constant}
use Rattle.flow_forms.specs.Values.{polynomial}
use Rattle.flow_forms.specs.Arithmetic.{form_sum}
use Rattle.flow_forms.specs.Conversions.{is_same_width}
use Rattle.flow_forms.specs.Comparisons.{FlowComparisonTree, zero_form, less_form, same_form, FlowLiteralTree, decided, holding, failing, comparison_holds, literal_holds, compared_numbers}
use Rattle.flow_forms.proofs.ConvertedValues.{same_bits}
use Rattle.flow_forms.proofs.EquationValues.{positive}
use Rattle.flow_forms.proofs.Polynomials.{value-form_sum}
use Rattle.flow_forms.proofs.ComparisonValues.{holds-compared_numbers}
use Rattle.kat_model.proofs.RelatesNothing.{RelatesNone, two_tests, three_tests}
use Rattle.flow_problem.specs.Edges.{FlowActionTree}
use Rattle.flow_problem.specs.Points.{RunPoint, numbers_at, point_frame}
use Rattle.flow_problem.specs.Substitutions.{complement_of}
use Rattle.flow_problem.specs.FlowFacts.{FlowRule, NumberedTest, by_order, by_equality, by_three_ways, by_next_number, fact_where, never_both, is_one_form, are_turned, is_comparison, denotes_equal, denotes_less, none_of_three, order_fact, equality_fact, three_way_fact, next_number_fact}
use Rattle.flow_forms.proofs.SameComparisons.{one_form, one_comparison}
use Rattle.flow_problem.proofs.EdgeRelations.{test_there}
use Rattle.flow_problem.proofs.AssignmentsHold.{Hold, hold_none, one_holds}

-- the value of a form of a width
abbrev pub number_at : Interpretation → List ℕ → Width → FlowFormTree → ℕ
number_at I s w f = polynomial I s f % modulus w

pub number_below : (I : Interpretation) (s : List ℕ) (w : Width) (f : FlowFormTree) → number_at I s w f < modulus w
number_below I s w f = mod_below (polynomial I s f) (modulus w) (positive w)

-- the forms of a comparison and of its mirror image
record Turned (v : Width) (d e : FlowFormTree) (w : Width) (f g : FlowFormTree) : Type 0 where
  width : v ≡ w
  first : d ≡ g
  second : e ≡ f

converse : (v : Width) (d e : FlowFormTree) (w : Width) (f g : FlowFormTree) → are_turned v d e w f g ≡ true → Turned v d e w f g
converse v d e w f g h =
    let a = and_parts (is_same_width v w) (is_one_form d g && is_one_form e f) h in
    let b = and_parts (is_one_form d g) (is_one_form e f) a.1 in
    record { width = same_bits v w a.0; first = one_form d g b.0; second = one_form e f b.1 }

turned_holds : (I : Interpretation) (s : List ℕ) (v : Width) (d e : FlowFormTree) (w : Width) (f g : FlowFormTree) → Turned v d e w f g →
    comparison_holds I s (less_form v d e) ≡ nat_lt (number_at I s w g) (number_at I s w f)
turned_holds I s v d e w f g t =
    ap₂ (λ x y. nat_lt (polynomial I s d % modulus x) (polynomial I s y % modulus x)) t.width t.second
    ∙ ap (λ x. nat_lt (polynomial I s x % modulus w) (number_at I s w f)) t.first

comparison_is : (l : FlowLiteralTree) (c : FlowComparisonTree) → is_comparison l c ≡ true → l ≡ holding c
comparison_is (decided b) c e = absurd cc
comparison_is (holding d) c e = ap holding (one_comparison d c e)
comparison_is (failing d) c e = absurd cc

equal_holds : (I : Interpretation) (s : List ℕ) (w : Width) (f g : FlowFormTree) (c : FlowComparisonTree) → denotes_equal w f g c ≡ true →
    comparison_holds I s c ≡ nat_eq (number_at I s w f) (number_at I s w g)
equal_holds I s w f g c e =
    ap (literal_holds I s) (sym (comparison_is (compared_numbers w Eq f g) c e)) ∙ holds-compared_numbers I s w Eq f g

less_holds : (I : Interpretation) (s : List ℕ) (w : Width) (f g : FlowFormTree) (c : FlowComparisonTree) → denotes_less w f g c ≡ true →
    comparison_holds I s c ≡ nat_lt (number_at I s w f) (number_at I s w g)
less_holds I s w f g c e =
    ap (literal_holds I s) (sym (comparison_is (compared_numbers w Lt f g) c e)) ∙ holds-compared_numbers I s w Lt f g

-- the number after that of a form that is less than another is the sum
next_number : (I : Interpretation) (s : List ℕ) (w : Width) (f g : FlowFormTree) → number_at I s w f < number_at I s w g → number_at I s w (form_sum (modulus w) f (constant 1)) ≡ number_at I s w f + 1
next_number I s w f g lt =
    let above = modulus_above_one w in
    let below = number_below I s w g in
    let one_more : 1 % modulus w ≡ 1 = mod-eq_of_lt above in
    value-form_sum I s (modulus w) f (constant 1)
    ∙ ap (λ x. (number_at I s w f + x) % modulus w) one_more
    ∙ mod-eq_of_lt (omega (arith, lt, below))

module _ (I : Interpretation) (sorts : List Sort) (tests : List FlowComparisonTree) (actions : List FlowActionTree) where
  abbrev frame : Frame RunPoint
  frame = point_frame I sorts tests actions

  abbrev IsRow : NumberedTest → Type 0
  IsRow row = slice_get tests row.0 ≡ Some row.1

  -- a test is true or false at a point as its comparison is
  true_at : (i : ℕ) (c : FlowComparisonTree) → slice_get tests i ≡ Some c → (p : RunPoint) → IsTrue (truth (prim i) (frame.atom p)) → comparison_holds I (numbers_at p) c ≡ true
  true_at i c row p t = sym (test_there I (numbers_at p) tests i c row) ∙ t

  false_at : (i : ℕ) (c : FlowComparisonTree) → slice_get tests i ≡ Some c → (p : RunPoint) → IsTrue (truth (complement (prim i)) (frame.atom p)) → comparison_holds I (numbers_at p) c ≡ false
  false_at i c row p t = sym (test_there I (numbers_at p) tests i c row) ∙ not-true (slice_index_or (map (comparison_holds I (numbers_at p)) tests) i false) t

  pub if_holds : (b : Bool) (rule : FlowRule) (e : Term) → (b ≡ true → RelatesNone frame e) → Hold I sorts tests actions (fact_where b rule e)
  if_holds true rule e n = one_holds I sorts tests actions rule e (n refl)
  if_holds false rule e n = hold_none I sorts tests actions

  pub order_fact_holds : (a b : NumberedTest) → IsRow a → IsRow b → Hold I sorts tests actions (order_fact a b)
  order_fact_holds (i, less_form v d e) (j, less_form w f g) p q = if_holds (nat_lt i j && are_turned v d e w f g) (by_order i j) (never_both i j) never
    where
      never : (nat_lt i j && are_turned v d e w f g) ≡ true → RelatesNone frame (never_both i j)
      never h =
          let t = converse v d e w f g (and_parts (nat_lt i j) (are_turned v d e w f g) h).1 in
          two_tests frame (prim i) (prim j)
          (λ x a b.
          let first = ltb-true (number_at I (numbers_at x) w g) (number_at I (numbers_at x) w f) (sym (turned_holds I (numbers_at x) v d e w f g t) ∙ true_at i (less_form v d e) p x a) in
          let second = ltb-true (number_at I (numbers_at x) w f) (number_at I (numbers_at x) w g) (true_at j (less_form w f g) q x b) in
          omega (arith, first, second))
  order_fact_holds (i, less_form v d e) (j, zero_form w f) p q = hold_none I sorts tests actions
  order_fact_holds (i, less_form v d e) (j, same_form f g) p q = hold_none I sorts tests actions
  order_fact_holds (i, zero_form v d) b p q = hold_none I sorts tests actions
  order_fact_holds (i, same_form d e) b p q = hold_none I sorts tests actions

  pub equality_fact_holds : (a b : NumberedTest) → IsRow a → IsRow b → Hold I sorts tests actions (equality_fact a b)
  equality_fact_holds (i, less_form w f g) (j, c) p q = if_holds (denotes_equal w f g c) (by_equality i j) (never_both i j) never
    where
      never : denotes_equal w f g c ≡ true → RelatesNone frame (never_both i j)
      never h =
          two_tests frame (prim i) (prim j)
          (λ x a b.
          let first = ltb-true (number_at I (numbers_at x) w f) (number_at I (numbers_at x) w g) (true_at i (less_form w f g) p x a) in
          let second = eqb-true (number_at I (numbers_at x) w f) (number_at I (numbers_at x) w g) (sym (equal_holds I (numbers_at x) w f g c h) ∙ true_at j c q x b) in
          omega (arith, first, second))
  equality_fact_holds (i, zero_form v d) b p q = hold_none I sorts tests actions
  equality_fact_holds (i, same_form d e) b p q = hold_none I sorts tests actions

  pub three_way_fact_holds : (a b c : NumberedTest) → IsRow a → IsRow b → IsRow c → Hold I sorts tests actions (three_way_fact a b c)
  three_way_fact_holds (i, less_form v d e) (j, less_form w f g) (k, c) p q r =
      if_holds ((nat_lt i j && are_turned v d e w f g) && denotes_equal w f g c) (by_three_ways i j k) (none_of_three (complement_of i) (complement_of j) (complement_of k)) never
    where
      never : ((nat_lt i j && are_turned v d e w f g) && denotes_equal w f g c) ≡ true → RelatesNone frame (none_of_three (complement_of i) (complement_of j) (complement_of k))
      never h =
          let parts = and_parts (nat_lt i j && are_turned v d e w f g) (denotes_equal w f g c) h in
          let t = converse v d e w f g (and_parts (nat_lt i j) (are_turned v d e w f g) parts.0).1 in
          three_tests frame (complement (prim i)) (complement (prim j)) (complement (prim k))
          (λ x a b z.
          let first = ltb-false (number_at I (numbers_at x) w g) (number_at I (numbers_at x) w f) (sym (turned_holds I (numbers_at x) v d e w f g t) ∙ false_at i (less_form v d e) p x a) in
          let second = ltb-false (number_at I (numbers_at x) w f) (number_at I (numbers_at x) w g) (false_at j (less_form w f g) q x b) in
          let third = eqb-false (number_at I (numbers_at x) w f) (number_at I (numbers_at x) w g) (sym (equal_holds I (numbers_at x) w f g c parts.1) ∙ false_at k c r x z) in
          third (omega (arith, first, second)))
  three_way_fact_holds (i, less_form v d e) (j, zero_form w f) c p q r = hold_none I sorts tests actions
  three_way_fact_holds (i, less_form v d e) (j, same_form f g) c p q r = hold_none I sorts tests actions
  three_way_fact_holds (i, zero_form v d) b c p q r = hold_none I sorts tests actions
  three_way_fact_holds (i, same_form d e) b c p q r = hold_none I sorts tests actions

  pub next_number_fact_holds : (a b c : NumberedTest) → IsRow a → IsRow b → IsRow c → Hold I sorts tests actions (next_number_fact a b c)
  next_number_fact_holds (i, less_form w f g) (j, c) (k, d) p q r =
      if_holds (denotes_less w (form_sum (modulus w) f (constant 1)) g c && denotes_equal w (form_sum (modulus w) f (constant 1)) g d) (by_next_number i j k) (none_of_three (prim i) (complement_of j) (complement_of k)) never
    where
      never : (denotes_less w (form_sum (modulus w) f (constant 1)) g c && denotes_equal w (form_sum (modulus w) f (constant 1)) g d) ≡ true → RelatesNone frame (none_of_three (prim i) (complement_of j) (complement_of k))
      never h =
          let parts = and_parts (denotes_less w (form_sum (modulus w) f (constant 1)) g c) (denotes_equal w (form_sum (modulus w) f (constant 1)) g d) h in
          three_tests frame (prim i) (complement (prim j)) (complement (prim k))
          (λ x a b z.
          let first = ltb-true (number_at I (numbers_at x) w f) (number_at I (numbers_at x) w g) (true_at i (less_form w f g) p x a) in
          let sum = next_number I (numbers_at x) w f g first in
          let second = ltb-false (number_at I (numbers_at x) w (form_sum (modulus w) f (constant 1))) (number_at I (numbers_at x) w g) (sym (less_holds I (numbers_at x) w (form_sum (modulus w) f (constant 1)) g c parts.0) ∙ false_at j c q x b) in
          let third = eqb-false (number_at I (numbers_at x) w (form_sum (modulus w) f (constant 1))) (number_at I (numbers_at x) w g) (sym (equal_holds I (numbers_at x) w (form_sum (modulus w) f (constant 1)) g d parts.1) ∙ false_at k d r x z) in
          third (omega (arith, first, sum, second)))
  next_number_fact_holds (i, zero_form v d) b c p q r = hold_none I sorts tests actions
  next_number_fact_holds (i, same_form d e) b c p q r = hold_none I sorts tests actions
