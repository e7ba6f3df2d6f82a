-- A term is guarded exactly when `is_guarded` accepts it.
use Rattle.std.proofs.Common.{◌≡◌, ◌↔◌, ◌∙◌, Bool, true, IsTrue, refl, sym, ap}
use Rattle.std.proofs.lemmas.Bool.{false≢true, and_parts, and_from}
use Rattle.kat_model.specs.Trees.{TestTree, complement, Term, zero, one, test, act, sum, product, star}
use Rattle.kat_model.specs.Guarded.{IsGuarded, guarded_zero, guarded_one, guarded_test, guarded_act, guarded_product, guarded_choice, guarded_loop}
use Rattle.kat_model.proofs.SameTrees.{same_test-true, same_test-itself}
use Rattle.gkat_front.specs.Working.Guards.{are_opposite, is_guarded}

-- a test and its complement
record AreOpposite (e f : Term) : Type 0 where
  guard : TestTree
  holds : e ≡ test guard
  fails : f ≡ test (complement guard)

opposite : (e f : Term) → are_opposite e f ≡ true → AreOpposite e f
opposite (test b) (test (complement c)) h = record { guard = b; holds = refl; fails = ap (λ d. test (complement d)) (sym (same_test-true b c h)) }
opposite e f h = absurd (false≢true h)

choice_guarded : (x y e f : Term) → AreOpposite x y → IsGuarded e → IsGuarded f → IsGuarded (sum (product x e) (product y f))
choice_guarded x y e f o p q = rw (o.holds, o.fails) (guarded_choice o.guard p q)

loop_guarded : (x y e : Term) → AreOpposite x y → IsGuarded e → IsGuarded (product (star (product x e)) y)
loop_guarded x y e o p = rw (o.holds, o.fails) (guarded_loop o.guard p)

form_guarded : (e : Term) → is_guarded e ≡ true → IsGuarded e
form_guarded zero h = guarded_zero
form_guarded one h = guarded_one
form_guarded (test b) h = guarded_test b
form_guarded (act a) h = guarded_act a
form_guarded (sum (product x e) (product y f)) h =
    let p = and_parts (are_opposite x y) _ h in
    let q = and_parts (is_guarded e) _ p.1 in
    choice_guarded x y e f (opposite x y p.0) (form_guarded e q.0) (form_guarded f q.1)
form_guarded (sum e f) h = absurd (false≢true h)
form_guarded (product (star (product x e)) y) h =
    let p = and_parts (are_opposite x y) _ h in
    loop_guarded x y e (opposite x y p.0) (form_guarded e p.1)
form_guarded (product (star e) f) h = absurd (false≢true h)
form_guarded (product e f) h = let p = and_parts (is_guarded e) _ h in guarded_product (form_guarded e p.0) (form_guarded f p.1)
form_guarded (star e) h = absurd (false≢true h)

product_form : (e f : Term) → is_guarded e ≡ true → is_guarded f ≡ true → is_guarded (product e f) ≡ true
product_form (star e) f h k = absurd (false≢true h)
product_form e f h k = and_from _ _ h k

guarded_form : {e : Term} → IsGuarded e → is_guarded e ≡ true
guarded_form guarded_zero = refl
guarded_form guarded_one = refl
guarded_form (guarded_test b) = refl
guarded_form (guarded_act a) = refl
guarded_form (guarded_product {e} {f} p q) = product_form e f (guarded_form p) (guarded_form q)
guarded_form (guarded_choice b p q) = and_from _ _ (same_test-itself b) (and_from _ _ (guarded_form p) (guarded_form q))
guarded_form (guarded_loop b p) = and_from _ _ (same_test-itself b) (guarded_form p)

pub guarded_by_form : (b : Bool) (e : Term) → b ≡ is_guarded e → IsTrue b ↔ IsGuarded e
guarded_by_form b e is = ((λ h. form_guarded e (sym is ∙ h)), (λ p. is ∙ guarded_form p))
