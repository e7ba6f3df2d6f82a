-- Facts of arithmetic relate no stores, if tests are the truth of comparisons.
use Rattle.std.proofs.Common.{◌≡◌, ℕ, ◌<◌, [], All, Bool, true, false, ◌&&◌, ◌||◌, nat_eq, nat_lt, if◌then◌else◌, refl, sym, ap, ap₂, ◌∙◌}
use Rattle.std.proofs.lemmas.Bool.{and_parts, both_ways}
use Rattle.std.proofs.lemmas.List.Elements.{All-nil, All-cons, All-append}
use Rattle.kat_model.specs.Trees.{Term, prim, complement}
use Rattle.kat_model.specs.Stores.{Store}
use Rattle.kat_model.specs.Relations.{Frame}
use Rattle.linear_forms.specs.Forms.{FormTree, constant, var_term, product_term}
use Rattle.linear_forms.specs.Arithmetic.{form_sum, form_difference}
use Rattle.linear_forms.specs.Values.{form_value}
use Rattle.linear_forms.specs.Comparisons.{atomic_holds, canonical}
use Rattle.linear_forms.specs.declared.comparison.Atomic.{Atomic}
use Rattle.linear_forms.specs.declared.comparison.Atomic.TheVariants.{Zero, Less}
use Rattle.abstraction.specs.declared.rule.Rule.{Rule}
use Rattle.abstraction.specs.declared.rule.Rule.TheVariants.{F1, F2, F3, F4, F5, F6}
use Rattle.linear_forms.specs.Sameness.{is_same_form}
use Rattle.abstraction.specs.Facts.{Hypothesis, TestRowOf, excludes, implies, one_holds, fact_if, is_nonzero, are_less, decided_by, apart_fact, order_fact, equality_fact, bound_fact, constant_fact, three_way_fact}
use Rattle.linear_forms.proofs.Sameness.{is_same_form-true}
use Rattle.abstraction.proofs.TestRows.{IsTestRow, holds_at, fails_at}
use Rattle.kat_model.proofs.RelatesNothing.{RelatesNone, two_tests, three_tests}
use Rattle.abstraction.proofs.FactValues.{value_by_difference, value_by_sum, not_both_zero, not_both_less, not_less_and_equal, one_of_three, less_than_greater, less_than_constant}

-- the hypothesis relates no states
abbrev pub HoldsIn : Frame Store → Hypothesis → Type 0
HoldsIn frame hyp = RelatesNone frame hyp.term

module _ (m : ℕ) (h : 1 < m) (frame : Frame Store) where
  abbrev Holds : Hypothesis → Type 0
  Holds = HoldsIn frame

  abbrev IsRow : TestRowOf → Type 0
  IsRow = IsTestRow m frame.atom

  none : All Holds []
  none = All-nil Holds

  where_true : (b : Bool) (rule : Rule) (term : Term) → (b ≡ true → RelatesNone frame term) → All Holds (fact_if b rule term)
  where_true true rule term holds = All-cons Holds (record { rule = rule; term = term }) [] (holds refl) none
  where_true false rule term holds = none

  never_both : (i j : ℕ) (a b : Atomic) → IsRow (i, a) → IsRow (j, b) → ((s : Store) → atomic_holds m s a ≡ true → atomic_holds m s b ≡ true → ⊥) → RelatesNone frame (excludes i j)
  never_both i j a b p q never = two_tests frame (prim i) (prim j) (λ s t u. never s (holds_at m frame.atom i a p s t) (holds_at m frame.atom j b q s u))

  never_first_alone : (i j : ℕ) (a b : Atomic) → IsRow (i, a) → IsRow (j, b) → ((s : Store) → atomic_holds m s a ≡ true → atomic_holds m s b ≡ false → ⊥) → RelatesNone frame (implies i j)
  never_first_alone i j a b p q never = two_tests frame (prim i) (complement (prim j)) (λ s t u. never s (holds_at m frame.atom i a p s t) (fails_at m frame.atom j b q s u))

  pub apart_fact_holds : (a b : TestRowOf) → IsRow a → IsRow b → All Holds (apart_fact m a b)
  apart_fact_holds (i, Zero f) (j, Zero g) p q =
      where_true _ (F1 i j) (excludes i j)
      (λ e. never_both i j (Zero f) (Zero g) p q (λ s x y. not_both_zero m s h f g x y (and_parts (nat_lt i j) (is_nonzero (form_difference m f g) || is_nonzero (form_sum m f g)) e).1))
  apart_fact_holds (i, Zero f) (j, Less g d) p q = none
  apart_fact_holds (i, Less f g) b p q = none

  pub order_fact_holds : (a b : TestRowOf) → IsRow a → IsRow b → All Holds (order_fact a b)
  order_fact_holds (i, Less f g) (j, Less d e) p q = where_true _ (F2 i j) (excludes i j) never
    where
      never : (nat_lt i j && (is_same_form f e && is_same_form g d)) ≡ true → RelatesNone frame (excludes i j)
      never c =
          let same = and_parts (is_same_form f e) (is_same_form g d) (and_parts (nat_lt i j) (is_same_form f e && is_same_form g d) c).1 in
          never_both i j (Less f g) (Less d e) p q
          (λ s x y. not_both_less m s h f g x (ap₂ (λ a b. nat_lt (form_value m s a) (form_value m s b)) (is_same_form-true g d same.1) (is_same_form-true f e same.0) ∙ y))
  order_fact_holds (i, Less f g) (j, Zero z) p q = none
  order_fact_holds (i, Zero z) b p q = none

  pub equality_fact_holds : (a b : TestRowOf) → IsRow a → IsRow b → All Holds (equality_fact m a b)
  equality_fact_holds (i, Less f g) (j, Zero z) p q =
      where_true _ (F3 i j) (excludes i j)
      (λ e. never_both i j (Less f g) (Zero z) p q
      (λ s x y. not_less_and_equal m s h f g x (ap (λ a. nat_eq (form_value m s a) 0) (sym (is_same_form-true z _ e)) ∙ y)))
  equality_fact_holds (i, Less f g) (j, Less d e) p q = none
  equality_fact_holds (i, Zero z) b p q = none

  pub bound_fact_holds : (a b : TestRowOf) → IsRow a → IsRow b → All Holds (bound_fact a b)
  bound_fact_holds (i, Less f c) (j, Less g d) p q = where_true _ (F4 i j) (implies i j) never
    where
      never : (is_same_form f g && are_less c d) ≡ true → RelatesNone frame (implies i j)
      never e =
          let both = and_parts (is_same_form f g) (are_less c d) e in
          never_first_alone i j (Less f c) (Less g d) p q
          (λ s x y. less_than_greater m s h f c d p.form.1 q.form.1 both.1 x (ap (λ a. nat_lt (form_value m s a) (form_value m s d)) (is_same_form-true f g both.0) ∙ y))
  bound_fact_holds (i, Less f c) (j, Zero z) p q = none
  bound_fact_holds (i, Zero z) b p q = none

  -- if z = 0 implies f = c, then z = 0 decides whether f < d
  module _ (i j : ℕ) (z f : FormTree) where
    decided : (c d : ℕ) → IsRow (i, Zero z) → IsRow (j, Less f (constant d)) → ((s : Store) → nat_eq (form_value m s z) 0 ≡ true → form_value m s f ≡ c)
        → (b : Bool) → nat_lt c d ≡ b → RelatesNone frame (if b then implies i j else excludes i j)
    decided c d p q value true e =
        never_first_alone i j (Zero z) (Less f (constant d)) p q
        (λ s x y. both_ways _ (sym (less_than_constant m s h f c d (value s x) q.form.1) ∙ y) e)
    decided c d p q value false e =
        never_both i j (Zero z) (Less f (constant d)) p q
        (λ s x y. both_ways _ e (sym (less_than_constant m s h f c d (value s x) q.form.1) ∙ y))

    decided_by_holds : (e d : FormTree) → IsRow (i, Zero z) → IsRow (j, Less f d) → ((s : Store) (c : ℕ) → e ≡ constant c → nat_eq (form_value m s z) 0 ≡ true → form_value m s f ≡ c)
        → All Holds (decided_by i j e d)
    decided_by_holds (constant c) (constant d) p q value = where_true true (F5 i j) _ (λ t. decided c d p q (λ s. value s c refl) (nat_lt c d) refl)
    decided_by_holds (constant c) (var_term k t rest) p q value = none
    decided_by_holds (constant c) (product_term g g' t rest) p q value = none
    decided_by_holds (var_term k t rest) d p q value = none
    decided_by_holds (product_term g g' t rest) d p q value = none

  pub constant_fact_holds : (a b : TestRowOf) → IsRow a → IsRow b → All Holds (constant_fact m a b)
  constant_fact_holds (i, Zero z) (j, Less f d) p q =
      All-append Holds (decided_by i j (form_difference m f z) d) (decided_by i j (form_sum m f z) d)
      (decided_by_holds i j z f (form_difference m f z) d p q (λ s. value_by_difference m s h f z))
      (decided_by_holds i j z f (form_sum m f z) d p q (λ s. value_by_sum m s h f z))
  constant_fact_holds (i, Zero z) (j, Zero y) p q = none
  constant_fact_holds (i, Less f g) b p q = none

  pub three_way_fact_holds : (a b c : TestRowOf) → IsRow a → IsRow b → IsRow c → All Holds (three_way_fact m a b c)
  three_way_fact_holds (i, Less f g) (j, Less d e) (k, Zero z) p q r = where_true _ (F6 i j k) (one_holds i j k) never
    where
      never : ((nat_lt i j && (is_same_form f e && is_same_form g d)) && is_same_form z (canonical m (form_difference m f g))) ≡ true → RelatesNone frame (one_holds i j k)
      never c =
          let all = and_parts (nat_lt i j && (is_same_form f e && is_same_form g d)) (is_same_form z (canonical m (form_difference m f g))) c in
          let same = and_parts (is_same_form f e) (is_same_form g d) (and_parts (nat_lt i j) (is_same_form f e && is_same_form g d) all.0).1 in
          three_tests frame (complement (prim i)) (complement (prim j)) (complement (prim k))
          (λ s t u v.
          one_of_three m s h f g (fails_at m frame.atom i (Less f g) p s t)
          (ap₂ (λ a b. nat_lt (form_value m s a) (form_value m s b)) (is_same_form-true g d same.1) (is_same_form-true f e same.0) ∙ fails_at m frame.atom j (Less d e) q s u)
          (ap (λ a. nat_eq (form_value m s a) 0) (sym (is_same_form-true z _ all.1)) ∙ fails_at m frame.atom k (Zero z) r s v))
  three_way_fact_holds (i, Less f g) (j, Less d e) (k, Less x y) p q r = none
  three_way_fact_holds (i, Less f g) (j, Zero y) c p q r = none
  three_way_fact_holds (i, Zero z) b c p q r = none
