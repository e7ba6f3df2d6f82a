-- Diagrams with a test fixed to a value.
use Rattle.std.proofs.Common.{◌≡◌, ◌⊎◌, ⊎_elim, ℕ, zero, suc, Bool, true, false, nat_eq, [], ◌∷◌, set, refl, sym, ap, ◌∙◌, subst, length-set}
use Rattle.std.proofs.lemmas.Bool.{eqb-true, eqb-false}
use Rattle.kat_model.specs.Steps.{Atom}
use Rattle.test_diagrams.specs.Functions.{DiagramsParts, value_of, IsDiagramOf, IsIndependent}

pub set_twice : (atom : Atom) (k : ℕ) (a b : Bool) → set (set atom k a) k b ≡ set atom k b
set_twice [] k a b = refl
set_twice (x ∷ xs) zero a b = refl
set_twice (x ∷ xs) (suc k) a b = ap (λ l. x ∷ l) (set_twice xs k a b)

pub set_apart : (atom : Atom) (j k : ℕ) (a b : Bool) → (j ≡ k → ⊥) → set (set atom j a) k b ≡ set (set atom k b) j a
set_apart [] j k a b apart = refl
set_apart (x ∷ xs) zero zero a b apart = absurd (apart refl)
set_apart (x ∷ xs) zero (suc k) a b apart = refl
set_apart (x ∷ xs) (suc j) zero a b apart = refl
set_apart (x ∷ xs) (suc j) (suc k) a b apart = ap (λ l. x ∷ l) (set_apart xs j k a b (λ e. apart (ap suc e)))

-- the id has the function of the older id with the test fixed to the value
abbrev pub IsFixedTo : DiagramsParts → DiagramsParts → ℕ → Bool → ℕ → ℕ → Type 0
IsFixedTo c d test value old id = IsDiagramOf d id (λ atom. value_of c old (set atom test value))

-- the fixed diagram depends neither on that test nor on any test on which the older diagram does not depend
pub fixed_independent : (c d : DiagramsParts) (test : ℕ) (value : Bool) (old id k : ℕ) → d.tests ≡ c.tests → IsFixedTo c d test value old id → IsIndependent c old k ⊎ (k ≡ test) → IsIndependent d id k
fixed_independent c d test value old id k tests is free atom fits b =
    is.value (set atom k b) (length-set atom k b ∙ fits) ∙ middle (nat_eq k test) refl ∙ sym (is.value atom fits)
  where
    middle : (same : Bool) → nat_eq k test ≡ same → value_of c old (set (set atom k b) test value) ≡ value_of c old (set atom test value)
    middle true e = ap (value_of c old) (subst (λ j. set (set atom j b) test value ≡ set atom test value) (sym (eqb-true k test e)) (set_twice atom test b value))
    middle false e =
        ap (value_of c old) (set_apart atom k test b value (eqb-false k test e))
        ∙ ⊎_elim (λ f. f (set atom test value) (length-set atom test value ∙ fits ∙ tests) b) (λ s. absurd (eqb-false k test e s)) free
