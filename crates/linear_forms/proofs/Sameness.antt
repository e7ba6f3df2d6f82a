-- The functions that compare forms and comparisons decide equality.
use Rattle.std.proofs.Common.{◌≡◌, true, Decides, refl, ap}
use Rattle.std.specs.Ordering.{is_eq}
use Rattle.std.proofs.lemmas.Bool.{false≢true, and_parts, and_from}
use Rattle.linear_forms.specs.Forms.{FormTree}
use Rattle.linear_forms.specs.Order.{form_cmp}
use Rattle.linear_forms.specs.Sameness.{is_same_form, is_same_comparison}
use Rattle.linear_forms.specs.declared.comparison.Atomic.{Atomic}
use Rattle.linear_forms.specs.declared.comparison.Atomic.TheVariants.{Zero, Less as LessThan}
use Rattle.linear_forms.proofs.SameOrder.{same_tree, is_eq-true}
use Rattle.linear_forms.proofs.TotalOrder.{form_itself}

pub is_same_form-true : (f g : FormTree) → is_same_form f g ≡ true → f ≡ g
is_same_form-true f g h = same_tree f g (is_eq-true (form_cmp f g) h)

pub is_same_form-same : (f : FormTree) → is_same_form f f ≡ true
is_same_form-same f = ap is_eq (form_itself f)

pub is_same_form-decides : (f g : FormTree) → Decides (is_same_form f g) (f ≡ g)
is_same_form-decides f g = (is_same_form-true f g, λ e. rw (e) (is_same_form-same g))

pub is_same_comparison-true : (a b : Atomic) → is_same_comparison a b ≡ true → a ≡ b
is_same_comparison-true (Zero f) (Zero g) h = ap Zero (is_same_form-true f g h)
is_same_comparison-true (Zero f) (LessThan g d) h = absurd (false≢true h)
is_same_comparison-true (LessThan f g) (Zero d) h = absurd (false≢true h)
is_same_comparison-true (LessThan f g) (LessThan d e) h =
    let p = and_parts (is_same_form f d) (is_same_form g e) h in
    rw (is_same_form-true f d p.0, is_same_form-true g e p.1) refl

pub is_same_comparison-same : (a : Atomic) → is_same_comparison a a ≡ true
is_same_comparison-same (Zero f) = is_same_form-same f
is_same_comparison-same (LessThan f g) = and_from (is_same_form f f) (is_same_form g g) (is_same_form-same f) (is_same_form-same g)

pub is_same_comparison-decides : (a b : Atomic) → Decides (is_same_comparison a b) (a ≡ b)
is_same_comparison-decides a b = (is_same_comparison-true a b, λ e. rw (e) (is_same_comparison-same b))
