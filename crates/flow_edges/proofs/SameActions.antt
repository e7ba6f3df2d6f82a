-- A test of sorts is that of their order.
use Rattle.std.proofs.Common.{◌≡◌, Bool, true, false, IsTrue, ◌↔◌, refl, sym, ap, subst, Ordering, Less, Equal, Greater}
use Rattle.std.specs.Ordering.{is_eq}
use Rattle.kat_model.specs.Stores.{bits}
use Rattle.kat_model.proofs.Numbers.{nat_cmp-own}
use Rattle.flow_model.specs.declared.sort.Sort.{Sort}
use Rattle.flow_model.specs.declared.sort.Sort.TheVariants.{Number, Opaque}
use Rattle.flow_forms.specs.Order.{sort_cmp}
use Rattle.flow_forms.proofs.SameForms.{same_sort}

own_sort : (a : Sort) → is_eq (sort_cmp a a) ≡ true
own_sort (Number w) = ap is_eq (nat_cmp-own (bits w))
own_sort (Opaque k) = ap is_eq (nat_cmp-own k)

one_sort : (a b : Sort) → is_eq (sort_cmp a b) ≡ true → a ≡ b
one_sort a b e = same_sort a b (by_order (sort_cmp a b) e)
  where
    by_order : (o : Ordering) → is_eq o ≡ true → o ≡ Equal
    by_order Less h = absurd cc
    by_order Equal h = refl
    by_order Greater h = absurd cc

pub sort_answers : (r : Bool) (a b : Sort) → IsTrue r ↔ (a ≡ b) → r ≡ is_eq (sort_cmp a b)
sort_answers true a b h = sym (subst (λ x. is_eq (sort_cmp a x) ≡ true) (h.0 refl) (own_sort a))
sort_answers false a b h = by_test (is_eq (sort_cmp a b)) (one_sort a b)
  where
    by_test : (p : Bool) → (p ≡ true → a ≡ b) → false ≡ p
    by_test true k = h.1 (k refl)
    by_test false k = refl
