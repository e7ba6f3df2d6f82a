-- What the comparisons of trees and of sets of terms decide.
use Rattle.std.proofs.Common.{◌≡◌, inl, inr, ⊎_elim, List, [], ◌∷◌, refl, ap, subst, true}
use Rattle.std.proofs.lemmas.Bool.{eqb-true, eq-eqb, and_parts, and_from}
use Rattle.kat_model.specs.Trees.{TestTree, bottom, top, prim, complement, meet, join, Term, zero, one, test, act, sum, product, star}
use Rattle.kat_model.specs.Members.{Has, IsSubset}
use Rattle.kat_model.specs.Pairs.{same_test, same_term, has_term, holds_all}
use Rattle.kat_model.proofs.Lists.{has_any, any_has}

-- `same_test` is true exactly for equal trees
pub same_test-true : (b c : TestTree) → same_test b c ≡ true → b ≡ c
same_test-true bottom bottom h = refl
same_test-true top top h = refl
same_test-true (prim k) (prim l) h = ap prim (eqb-true k l h)
same_test-true (complement b) (complement c) h = ap complement (same_test-true b c h)
same_test-true (meet b c) (meet d e) h =
    let s = and_parts (same_test b d) (same_test c e) h in
    rw (same_test-true b d s.0, same_test-true c e s.1)
same_test-true (join b c) (join d e) h =
    let s = and_parts (same_test b d) (same_test c e) h in
    rw (same_test-true b d s.0, same_test-true c e s.1)
same_test-true _ _ h = absurd cc

pub same_test-itself : (b : TestTree) → same_test b b ≡ true
same_test-itself bottom = refl
same_test-itself top = refl
same_test-itself (prim k) = eq-eqb k k refl
same_test-itself (complement b) = same_test-itself b
same_test-itself (meet b c) = and_from _ _ (same_test-itself b) (same_test-itself c)
same_test-itself (join b c) = and_from _ _ (same_test-itself b) (same_test-itself c)

pub same_term-true : (e f : Term) → same_term e f ≡ true → e ≡ f
same_term-true zero zero h = refl
same_term-true one one h = refl
same_term-true (test b) (test c) h = ap test (same_test-true b c h)
same_term-true (act a) (act b) h = ap act (eqb-true a b h)
same_term-true (sum e f) (sum g k) h =
    let s = and_parts (same_term e g) (same_term f k) h in
    rw (same_term-true e g s.0, same_term-true f k s.1)
same_term-true (product e f) (product g k) h =
    let s = and_parts (same_term e g) (same_term f k) h in
    rw (same_term-true e g s.0, same_term-true f k s.1)
same_term-true (star e) (star f) h = ap star (same_term-true e f h)
same_term-true _ _ h = absurd cc

pub same_term-itself : (e : Term) → same_term e e ≡ true
same_term-itself zero = refl
same_term-itself one = refl
same_term-itself (test b) = same_test-itself b
same_term-itself (act a) = eq-eqb a a refl
same_term-itself (sum e f) = and_from _ _ (same_term-itself e) (same_term-itself f)
same_term-itself (product e f) = and_from _ _ (same_term-itself e) (same_term-itself f)
same_term-itself (star e) = same_term-itself e

-- `holds` finds exactly the members
pub holds-true : (es : List Term) (e : Term) → has_term es e ≡ true → Has es e
holds-true es e h =
    let r = has_any (λ x. same_term x e) es h in
    subst (Has es) (same_term-true r.0 e r.2) r.1

pub has-holds : (es : List Term) (e : Term) → Has es e → has_term es e ≡ true
has-holds es e h = any_has (λ x. same_term x e) es e h (same_term-itself e)

-- `holds_all` finds exactly the subsets
pub holds_all-true : (es fs : List Term) → holds_all es fs ≡ true → IsSubset fs es
holds_all-true es [] h x k = absurd k
holds_all-true es (f ∷ fs) h x k =
    let s = and_parts (has_term es f) (holds_all es fs) h in
    ⊎_elim (λ e. subst (Has es) e (holds-true es f s.0)) (λ l. holds_all-true es fs s.1 x l) k

pub subset-holds_all : (es fs : List Term) → IsSubset fs es → holds_all es fs ≡ true
subset-holds_all es [] h = refl
subset-holds_all es (f ∷ fs) h = and_from _ _ (has-holds es f (h f (inl refl))) (subset-holds_all es fs (λ x k. h x (inr k)))
