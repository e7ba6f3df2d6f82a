-- The term of an expression is guarded.
use Rattle.kat_model.specs.Guarded.{IsGuarded, guarded_test, guarded_act, guarded_product, guarded_choice, guarded_loop}
use Rattle.gkat_front.specs.Expressions.{GkatTree, test, act, product, choice, loop, kat_of}

pub kat_of_guarded : (e : GkatTree) → IsGuarded (kat_of e)
kat_of_guarded (test b) = guarded_test b
kat_of_guarded (act a) = guarded_act a
kat_of_guarded (product e f) = guarded_product (kat_of_guarded e) (kat_of_guarded f)
kat_of_guarded (choice b e f) = guarded_choice b (kat_of_guarded e) (kat_of_guarded f)
kat_of_guarded (loop b e) = guarded_loop b (kat_of_guarded e)
