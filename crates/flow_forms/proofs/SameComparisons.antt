-- The function that compares comparisons decides equality.
use Rattle.std.proofs.Common.{◌≡◌, Bool, true, false, ◌&&◌, IsTrue, ◌↔◌, refl, sym, ap, subst}
use mathlib.Core.Path.{ap₂}
use Rattle.std.proofs.lemmas.Bool.{and_parts}
use Rattle.std.specs.Ordering.{is_eq}
use Rattle.kat_model.specs.declared.expression.Width.{Width}
use Rattle.kat_model.specs.declared.expression.Width.TheVariants.{W8, W16, W32, W64}
use Rattle.linear_forms.proofs.SameOrder.{is_eq-true}
use Rattle.flow_forms.specs.Forms.{FlowFormTree}
use Rattle.flow_forms.specs.Order.{form_cmp}
use Rattle.flow_forms.specs.Conversions.{is_same_width}
use Rattle.flow_forms.specs.Comparisons.{FlowComparisonTree, zero_form, less_form, same_form, is_same_comparison}
use Rattle.flow_forms.proofs.SameForms.{same_form as equal_forms, own_form}
use Rattle.flow_forms.proofs.ConvertedValues.{same_bits}

pub one_form : (f g : FlowFormTree) → is_eq (form_cmp f g) ≡ true → f ≡ g
one_form f g e = equal_forms f g (is_eq-true (form_cmp f g) e)

pub one_comparison : (c d : FlowComparisonTree) → is_same_comparison c d ≡ true → c ≡ d
one_comparison (zero_form v f) (zero_form w g) e =
    let h = and_parts (is_same_width v w) (is_eq (form_cmp f g)) e in
    ap₂ zero_form (same_bits v w h.0) (one_form f g h.1)
one_comparison (less_form v d e) (less_form w f g) q =
    let h = and_parts (is_same_width v w && is_eq (form_cmp d f)) (is_eq (form_cmp e g)) q in
    let k = and_parts (is_same_width v w) (is_eq (form_cmp d f)) h.0 in
    rw (same_bits v w k.0, one_form d f k.1, one_form e g h.1) refl
one_comparison (same_form d e) (same_form f g) q =
    let h = and_parts (is_eq (form_cmp d f)) (is_eq (form_cmp e g)) q in
    ap₂ same_form (one_form d f h.0) (one_form e g h.1)
one_comparison _ _ e = absurd cc

own_width : (w : Width) → is_same_width w w ≡ true
own_width W8 = refl
own_width W16 = refl
own_width W32 = refl
own_width W64 = refl

pub own_test : (f : FlowFormTree) → is_eq (form_cmp f f) ≡ true
own_test f = ap is_eq (own_form f)

-- a test of equality is the test of the order
pub form_answers : (r : Bool) (f g : FlowFormTree) → IsTrue r ↔ (f ≡ g) → r ≡ is_eq (form_cmp f g)
form_answers true f g h = sym (subst (λ x. is_eq (form_cmp f x) ≡ true) (h.0 refl) (own_test f))
form_answers false f g h = by_test (is_eq (form_cmp f g)) (one_form f g)
  where
    by_test : (b : Bool) → (b ≡ true → f ≡ g) → false ≡ b
    by_test true k = h.1 (k refl)
    by_test false k = refl

pub own_comparison : (c : FlowComparisonTree) → is_same_comparison c c ≡ true
own_comparison (zero_form w f) = ap₂ (λ x y. x && y) (own_width w) (own_test f)
own_comparison (less_form w f g) = ap₂ (λ x y. x && y) (ap₂ (λ x y. x && y) (own_width w) (own_test f)) (own_test g)
own_comparison (same_form f g) = ap₂ (λ x y. x && y) (own_test f) (own_test g)

pub same_answers : (r : Bool) (c d : FlowComparisonTree) → IsTrue r ↔ (c ≡ d) → r ≡ is_same_comparison c d
same_answers true c d h = sym (subst (λ e. is_same_comparison c e ≡ true) (h.0 refl) (own_comparison c))
same_answers false c d h = by_test (is_same_comparison c d) (one_comparison c d)
  where
    by_test : (b : Bool) → (b ≡ true → c ≡ d) → false ≡ b
    by_test true k = h.1 (k refl)
    by_test false k = refl
