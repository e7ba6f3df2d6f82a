-- Forms that compare as equal are equal.
use Rattle.std.proofs.Common.{◌≡◌, Bool, true, false, refl, ap, Ordering, Equal, nat_cmp}
use Rattle.std.specs.Ordering.{ordering_then}
use Rattle.kat_model.specs.Stores.{bits}
use Rattle.kat_model.proofs.Numbers.{nat_cmp-own}
use Rattle.kat_model.specs.declared.expression.Width.{Width}
use Rattle.kat_model.specs.declared.expression.Width.TheVariants.{W8, W16, W32, W64}
use Rattle.flow_model.specs.declared.sort.Sort.{Sort}
use Rattle.flow_model.specs.declared.sort.Sort.TheVariants.{Number, Opaque}
use Rattle.linear_forms.proofs.SameOrder.{then_equal, same_number}
use Rattle.flow_forms.specs.Forms.{FlowFormTree, constant, term, one, factor, variable, applied, converted, no_arguments, argument}
use Rattle.flow_forms.specs.Order.{sort_cmp, sign_rank, form_cmp}

pub same_width : (v w : Width) → nat_cmp (bits v) (bits w) ≡ Equal → v ≡ w
same_width W8 W8 h = refl
same_width W16 W16 h = refl
same_width W32 W32 h = refl
same_width W64 W64 h = refl
same_width _ _ h = absurd cc

pub same_sort : (a b : Sort) → sort_cmp a b ≡ Equal → a ≡ b
same_sort (Number v) (Number w) h = ap Number (same_width v w h)
same_sort (Opaque j) (Opaque k) h = ap Opaque (same_number j k h)
same_sort _ _ h = absurd cc

pub same_sign : (a b : Bool) → nat_cmp (sign_rank a) (sign_rank b) ≡ Equal → a ≡ b
same_sign false false h = refl
same_sign true true h = refl
same_sign _ _ h = absurd cc

pub same_form : (f g : FlowFormTree) → form_cmp f g ≡ Equal → f ≡ g
same_form (constant c) (constant d) h = ap constant (same_number c d h)
same_form (term t p rest) (term u q other) h =
    let a = then_equal _ _ h in
    let b = then_equal _ _ a.1 in
    rw (same_form p q a.0, same_number t u b.0, same_form rest other b.1) refl
same_form one one h = refl
same_form (factor c rest) (factor d other) h =
    let a = then_equal _ _ h in rw (same_form c d a.0, same_form rest other a.1) refl
same_form (variable j) (variable k) h = ap variable (same_number j k h)
same_form (applied f result arguments) (applied g sort others) h =
    let a = then_equal _ _ h in
    let b = then_equal _ _ a.1 in
    rw (same_number f g a.0, same_sort result sort b.0, same_form arguments others b.1) refl
same_form (converted signed from to f) (converted sign v w g) h =
    let a = then_equal _ _ h in
    let b = then_equal _ _ a.1 in
    let d = then_equal _ _ b.1 in
    rw (same_sign signed sign a.0, same_width from v b.0, same_width to w d.0, same_form f g d.1) refl
same_form no_arguments no_arguments h = refl
same_form (argument sort f rest) (argument kind g other) h =
    let a = then_equal _ _ h in
    let b = then_equal _ _ a.1 in
    rw (same_sort sort kind a.0, same_form f g b.0, same_form rest other b.1) refl
same_form _ _ h = absurd cc

own_then : (a b : Ordering) → a ≡ Equal → b ≡ Equal → ordering_then a b ≡ Equal
own_then a b p q = rw (p) q

own_sort : (a : Sort) → sort_cmp a a ≡ Equal
own_sort (Number w) = nat_cmp-own (bits w)
own_sort (Opaque k) = nat_cmp-own k

-- a form compares as equal to itself
pub own_form : (f : FlowFormTree) → form_cmp f f ≡ Equal
own_form (constant c) = nat_cmp-own c
own_form (term t p rest) = own_then _ _ (own_form p) (own_then _ _ (nat_cmp-own t) (own_form rest))
own_form one = refl
own_form (factor c rest) = own_then _ _ (own_form c) (own_form rest)
own_form (variable k) = nat_cmp-own k
own_form (applied f result arguments) = own_then _ _ (nat_cmp-own f) (own_then _ _ (own_sort result) (own_form arguments))
own_form (converted signed from to f) =
    own_then _ _ (nat_cmp-own (sign_rank signed)) (own_then _ _ (nat_cmp-own (bits from)) (own_then _ _ (nat_cmp-own (bits to)) (own_form f)))
own_form no_arguments = refl
own_form (argument sort f rest) = own_then _ _ (own_sort sort) (own_then _ _ (own_form f) (own_form rest))
