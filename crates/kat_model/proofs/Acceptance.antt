-- The guarded strings that a set of terms accepts, and those that a term accepts, by its form.
use Rattle.std.proofs.Common.{◌≡◌, ℕ, List, [], ◌∷◌, ◌++◌, refl, sym, ap, ◌∙◌, subst, Bool, false, ◌||◌}
use Rattle.std.specs.Bool.{IsTrue}
use Rattle.std.specs.List.{list_any, flat_map}
use Rattle.std.specs.Cmp.{both_ways}
use Rattle.std.proofs.Math.Bool.{or-false}
use Rattle.std.proofs.lemmas.Bool.{false≢true}
use Rattle.std.proofs.lemmas.List.Folds.{list_any-append}
use Rattle.kat_model.specs.Trees.{TestTree, Term, zero, one, test, act, sum, product, star}
use Rattle.kat_model.specs.Members.{Has, SameMembers}
use Rattle.kat_model.specs.Steps.{Atom, truth, dot, next, set_out, set_next}
use Rattle.kat_model.specs.Strings.{Move, accepts, set_accepts}
use Rattle.kat_model.proofs.Lists.{has_any, any_has, has_next_act, next_act_has}

list_any-flat_map : {X Y : Type 0} (p : Y → Bool) (f : X → List Y) (xs : List X) → list_any p (flat_map f xs) ≡ list_any (λ x. list_any p (f x)) xs
list_any-flat_map p f [] = refl
list_any-flat_map p f (x ∷ xs) = list_any-append p (f x) (flat_map f xs) ∙ ap (λ b. list_any p (f x) || b) (list_any-flat_map p f xs)

-- sets of terms

pub set_accepts-nil : (es : List Term) (atom : Atom) → set_accepts es atom [] ≡ set_out es atom
set_accepts-nil es atom = refl

pub set_accepts-cons : (es : List Term) (atom : Atom) (m : Move) (ms : List Move) → set_accepts es atom (m ∷ ms) ≡ set_accepts (set_next es atom m.act) m.atom ms
set_accepts-cons es atom m ms = sym (list_any-flat_map (λ f. accepts f m.atom ms) (λ e. next e atom m.act) es)

pub set_accepts-single : (e : Term) (atom : Atom) (ms : List Move) → set_accepts (e ∷ []) atom ms ≡ accepts e atom ms
set_accepts-single e atom ms = or-false (accepts e atom ms)

pub set_accepts-append : (es fs : List Term) (atom : Atom) (ms : List Move) → set_accepts (es ++ fs) atom ms ≡ (set_accepts es atom ms || set_accepts fs atom ms)
set_accepts-append es fs atom ms = list_any-append (λ e. accepts e atom ms) es fs

pub has_set_accepts : (es : List Term) (atom : Atom) (ms : List Move) → IsTrue (set_accepts es atom ms) → (e : Term) × Has es e × IsTrue (accepts e atom ms)
has_set_accepts es atom ms h = has_any (λ e. accepts e atom ms) es h

pub set_accepts_has : (es : List Term) (atom : Atom) (ms : List Move) (e : Term) → Has es e → IsTrue (accepts e atom ms) → IsTrue (set_accepts es atom ms)
set_accepts_has es atom ms e h a = any_has (λ e. accepts e atom ms) es e h a

-- sets with the same members accept the same strings
pub set_accepts_same : (es fs : List Term) (atom : Atom) (ms : List Move) → SameMembers es fs → set_accepts es atom ms ≡ set_accepts fs atom ms
set_accepts_same es fs atom ms same = both_ways (set_accepts es atom ms) (set_accepts fs atom ms) there back
  where
    there : IsTrue (set_accepts es atom ms) → IsTrue (set_accepts fs atom ms)
    there h = let r = has_set_accepts es atom ms h in set_accepts_has fs atom ms r.0 ((same r.0).0 r.1) r.2

    back : IsTrue (set_accepts fs atom ms) → IsTrue (set_accepts es atom ms)
    back h = let r = has_set_accepts fs atom ms h in set_accepts_has es atom ms r.0 ((same r.0).1 r.1) r.2

-- the first move of a string

pub accepts_step : (e : Term) (atom : Atom) (m : Move) (ms : List Move) → IsTrue (accepts e atom (m ∷ ms)) → (x : Term) × Has (next e atom m.act) x × IsTrue (accepts x m.atom ms)
accepts_step e atom m ms h = has_set_accepts (next e atom m.act) m.atom ms h

pub step_accepts : (e : Term) (atom : Atom) (m : Move) (ms : List Move) (x : Term) → Has (next e atom m.act) x → IsTrue (accepts x m.atom ms) → IsTrue (accepts e atom (m ∷ ms))
step_accepts e atom m ms x h a = set_accepts_has (next e atom m.act) m.atom ms x h a

-- the simple forms

pub accepts-zero : (atom : Atom) (ms : List Move) → accepts zero atom ms ≡ false
accepts-zero atom [] = refl
accepts-zero atom (m ∷ ms) = refl

pub accepts_one : (atom : Atom) (ms : List Move) → IsTrue (accepts one atom ms) → ms ≡ []
accepts_one atom [] h = refl
accepts_one atom (m ∷ ms) h = absurd (false≢true h)

pub accepts_test : (b : TestTree) (atom : Atom) (ms : List Move) → IsTrue (accepts (test b) atom ms) → (ms ≡ []) × IsTrue (truth b atom)
accepts_test b atom [] h = (refl, h)
accepts_test b atom (m ∷ ms) h = absurd (false≢true h)

pub accepts_act : (a : ℕ) (atom : Atom) (ms : List Move) → IsTrue (accepts (act a) atom ms) → (after : Atom) × (ms ≡ record { act = a; atom = after } ∷ [])
accepts_act a atom [] h = absurd (false≢true h)
accepts_act a atom (m ∷ ms) h =
    let x = accepts_step (act a) atom m ms h in
    let same = has_next_act atom m.act a x.0 x.1 in
    let ended = accepts_one m.atom ms (subst (λ z. IsTrue (accepts z m.atom ms)) (sym same.1) x.2) in
    (m.atom, λ i. record { act = same.0 i; atom = m.atom } ∷ ended i)

pub act_accepts : (a : ℕ) (atom after : Atom) → IsTrue (accepts (act a) atom (record { act = a; atom = after } ∷ []))
act_accepts a atom after = step_accepts (act a) atom (record { act = a; atom = after }) [] one (next_act_has atom a a refl) refl

pub accepts-sum : (e f : Term) (atom : Atom) (ms : List Move) → accepts (sum e f) atom ms ≡ (accepts e atom ms || accepts f atom ms)
accepts-sum e f atom [] = refl
accepts-sum e f atom (m ∷ ms) = set_accepts-append (next e atom m.act) (next f atom m.act) m.atom ms

-- `dot` accepts the same strings as the product
pub accepts-dot : (e f : Term) (atom : Atom) (ms : List Move) → accepts (dot e f) atom ms ≡ accepts (product e f) atom ms
accepts-dot zero f atom ms = refl
accepts-dot one f atom [] = refl
accepts-dot one f atom (m ∷ ms) = refl
accepts-dot (test b) f atom ms = refl
accepts-dot (act a) f atom ms = refl
accepts-dot (sum e g) f atom ms = refl
accepts-dot (product e g) f atom ms = refl
accepts-dot (star e) f atom ms = refl
