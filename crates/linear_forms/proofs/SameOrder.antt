-- Forms that compare as equal are equal.
use Rattle.std.proofs.Common.{ℕ, ◌≡◌, refl, ap, arith, Bool, true, IsTrue}
use Rattle.std.proofs.lemmas.Bool.{false≢true}
use Rattle.std.proofs.lemmas.Bool.Decides.{nat_tests}
use Rattle.std.proofs.Common.{Ordering, Less, Equal, Greater, nat_cmp}
use Rattle.std.specs.Ordering.{ordering_then, ordering_index, is_eq}
use Rattle.std.specs.Bool.{◌==◌}
use Rattle.linear_forms.specs.Forms.{FormTree, constant, var_term, product_term, MonoTree, var, product}
use Rattle.linear_forms.specs.Order.{form_cmp, mono_cmp}

pub then_equal : (a b : Ordering) → ordering_then a b ≡ Equal → (a ≡ Equal) × (b ≡ Equal)
then_equal Less b h = absurd cc
then_equal Equal b h = (refl, h)
then_equal Greater b h = absurd cc

pub same_number : (j k : ℕ) → nat_cmp j k ≡ Equal → j ≡ k
same_number j k h = grind (arith, nat_tests, h)

pub same_tree : (f g : FormTree) → form_cmp f g ≡ Equal → f ≡ g
same_tree (constant c) (constant d) h = ap constant (same_number c d h)
same_tree (var_term j t r) (var_term k u q) h =
    let p = then_equal _ _ h in
    let n = then_equal _ _ (p.1) in
    rw (same_number j k p.0, same_number t u n.0, same_tree r q n.1) refl
same_tree (product_term e d t r) (product_term f g u q) h =
    let p = then_equal _ _ h in
    let l = then_equal _ _ (p.0) in
    let n = then_equal _ _ (p.1) in
    rw (same_tree e f l.0, same_tree d g l.1, same_number t u n.0, same_tree r q n.1) refl
same_tree _ _ h = absurd cc

pub same_mono : (p q : MonoTree) → mono_cmp p q ≡ Equal → p ≡ q
same_mono (var j) (var k) h = ap var (same_number j k h)
same_mono (product e d) (product f g) h =
    let l = then_equal _ _ h in
    rw (same_tree e f l.0, same_tree d g l.1) refl
same_mono _ _ h = absurd cc

pub equal_order : (o : Ordering) (b : Bool) → b ≡ (ordering_index o == 1) → IsTrue b → o ≡ Equal
equal_order Less b e h = absurd (false≢true (rw (← e) h))
equal_order Equal b e h = refl
equal_order Greater b e h = absurd (false≢true (rw (← e) h))

pub is_eq-true : (o : Ordering) → is_eq o ≡ true → o ≡ Equal
is_eq-true Less h = absurd cc
is_eq-true Equal h = refl
is_eq-true Greater h = absurd cc
