-- The term of a flow is guarded.
use Rattle.std.proofs.Common.{List, inl, inr, refl, subst}
use Rattle.kat_model.specs.Trees.{Term, one, product}
use Rattle.kat_model.specs.Members.{Has}
use Rattle.kat_model.specs.Balanced.{product_of}
use Rattle.kat_model.specs.Guarded.{IsGuarded, guarded_zero, guarded_one, guarded_test, guarded_act, guarded_product, guarded_choice, guarded_loop}
use Rattle.kat_model.proofs.Lists.{has_left, has_right}
use Rattle.kat_model.proofs.BalancedTrees.{balanced_holds}
use Rattle.while_lang.specs.Flows.{FlowTree, empty, skip_then, abort_then, assert_then, act_then, branch_then, loop_then}
use Rattle.while_lang.specs.Encoding.{stmt_terms, encoded}

guarded_product_of : (es : List Term) → ((e : Term) → Has es e → IsGuarded e) → IsGuarded (product_of es)
guarded_product_of es h =
    balanced_holds one product (λ fs e. ((x : Term) → Has fs x → IsGuarded x) → IsGuarded e)
    (λ all. guarded_one)
    (λ x all. all x (inl refl))
    (λ xs ys a b p q all. guarded_product (p (λ x m. all x (has_left xs ys x m))) (q (λ x m. all x (has_right xs ys x m))))
    es h

terms_guarded : (f : FlowTree) (e : Term) → Has (stmt_terms f) e → IsGuarded e
terms_guarded empty e h = elim h [ ]
terms_guarded (skip_then rest) e (inl h) = subst IsGuarded h guarded_one
terms_guarded (skip_then rest) e (inr h) = terms_guarded rest e h
terms_guarded (abort_then rest) e (inl h) = subst IsGuarded h guarded_zero
terms_guarded (abort_then rest) e (inr h) = terms_guarded rest e h
terms_guarded (assert_then b rest) e (inl h) = subst IsGuarded h (guarded_test b)
terms_guarded (assert_then b rest) e (inr h) = terms_guarded rest e h
terms_guarded (act_then a rest) e (inl h) = subst IsGuarded h (guarded_act a)
terms_guarded (act_then a rest) e (inr h) = terms_guarded rest e h
terms_guarded (branch_then b f g rest) e (inl h) =
    subst IsGuarded h (guarded_choice b (guarded_product_of (stmt_terms f) (terms_guarded f)) (guarded_product_of (stmt_terms g) (terms_guarded g)))
terms_guarded (branch_then b f g rest) e (inr h) = terms_guarded rest e h
terms_guarded (loop_then b f rest) e (inl h) = subst IsGuarded h (guarded_loop b (guarded_product_of (stmt_terms f) (terms_guarded f)))
terms_guarded (loop_then b f rest) e (inr h) = terms_guarded rest e h

pub encoded_guarded : (f : FlowTree) → IsGuarded (encoded f)
encoded_guarded f = guarded_product_of (stmt_terms f) (terms_guarded f)
