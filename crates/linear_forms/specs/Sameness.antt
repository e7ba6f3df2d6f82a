-- Whether two forms, and two comparisons, are one tree.
use Rattle.std.specs.Prelude.{Bool, ◌&&◌, false}
use Rattle.std.specs.Ordering.{is_eq}
use Rattle.linear_forms.specs.Forms.{FormTree}
use Rattle.linear_forms.specs.Order.{form_cmp}
use Rattle.linear_forms.specs.declared.comparison.Atomic.{Atomic}
use Rattle.linear_forms.specs.declared.comparison.Atomic.TheVariants.{Zero, Less}

abbrev pub is_same_form : FormTree → FormTree → Bool
is_same_form f g = is_eq (form_cmp f g)

abbrev pub is_same_comparison : Atomic → Atomic → Bool
is_same_comparison (Zero f) (Zero g) = is_same_form f g
is_same_comparison (Less f g) (Less d e) = is_same_form f d && is_same_form g e
is_same_comparison a b = false
