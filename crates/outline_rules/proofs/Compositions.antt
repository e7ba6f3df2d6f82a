-- Functions of diagrams that are built in several steps.
use Rattle.std.proofs.Common.{◌≡◌, ℕ, ◌+◌, ◌↔◌, length, get_or, Bool, true, false, not, ◌&&◌, ◌||◌, cond, refl, sym, ap, ◌∙◌, subst}
use mathlib.Core.Path.{ap₂}
use Rattle.std.proofs.Math.ListN.{set, length-set}
use Rattle.std.specs.Bool.{IsTrue}
use Rattle.std.proofs.lemmas.Bool.{and_parts}
use Rattle.kat_model.specs.Steps.{Atom}
use Rattle.test_diagrams.specs.Functions.{value_of, IsAtomOf, SameFunction}
use Rattle.test_diagrams.specs.Laws.{EqualIdsAreEqualFunctions}
use Rattle.outline_rules.specs.declared.moments.Moment.{Moment}
use Rattle.outline_rules.specs.declared.moments.Moment.TheVariants.{Before, After}
use Rattle.outline_rules.specs.Interleaved.{interleaved, atom_at_moment, with_value}
use Rattle.outline_rules.specs.StepFunctions.{StepDiagramsParts, AreStepDiagrams, step_value, IsStepId, IsStepDiagram, KeepsSteps, choice_by, Entails}
use Rattle.outline_rules.proofs.Interleaving.{atom_parts}
use Rattle.outline_rules.proofs.StepSets.{step_value-kept, KeepsSteps-trans, IsStepId-kept, choice_values}

-- a choice by a test, built from the diagrams of the test and its complement
pub choice_function : (s0 s1 s2 s3 s4 : StepDiagramsParts) (moment : Moment) (test low high holds fails wf wt : ℕ) → KeepsSteps s0 s1 → KeepsSteps s1 s2 → KeepsSteps s2 s3 → KeepsSteps s3 s4 → IsStepId s0 low → IsStepId s0 high
    → IsStepDiagram s1 holds (λ x y. get_or (atom_at_moment moment x y) test false)
    → IsStepDiagram s2 fails (λ x y. not (step_value s1 holds x y))
    → IsStepDiagram s3 wf (λ x y. step_value s2 fails x y && step_value s2 low x y)
    → IsStepDiagram s4 wt (λ x y. step_value s3 holds x y && step_value s3 high x y)
    → (x y : Atom) → length x ≡ s0.tests → length y ≡ s0.tests → (step_value s4 wf x y || step_value s4 wt x y) ≡ choice_by moment test (step_value s0 low) (step_value s0 high) x y
choice_function s0 s1 s2 s3 s4 moment test low high holds fails wf wt k1 k2 k3 k4 l h d1 d2 d3 d4 x y lx ly =
    let k02 = KeepsSteps-trans s0 s1 s2 k1 k2 in
    let k03 = KeepsSteps-trans s0 s2 s3 k02 k3 in
    let k04 = KeepsSteps-trans s0 s3 s4 k03 k4 in
    let k13 = KeepsSteps-trans s1 s2 s3 k2 k3 in
    let b : Bool = get_or (atom_at_moment moment x y) test false in
    let own = d1.value x y (lx ∙ sym k1.tests) (ly ∙ sym k1.tests) in
    let first : step_value s4 wf x y ≡ (not b && step_value s0 low x y) =
    step_value-kept s3 s4 k4 wf d3.in_range x y ∙ d3.value x y (lx ∙ sym k03.tests) (ly ∙ sym k03.tests)
    ∙ ap₂ (λ p q. p && q) (d2.value x y (lx ∙ sym k02.tests) (ly ∙ sym k02.tests) ∙ ap not own) (step_value-kept s0 s2 k02 low l x y) in
    let second : step_value s4 wt x y ≡ (b && step_value s0 high x y) =
    d4.value x y (lx ∙ sym k04.tests) (ly ∙ sym k04.tests)
    ∙ ap₂ (λ p q. p && q) (step_value-kept s1 s3 k13 holds d1.in_range x y ∙ own) (step_value-kept s0 s3 k03 high h x y) in
    ap₂ (λ p q. p || q) first second ∙ choice_values b (step_value s0 low x y) (step_value s0 high x y)

-- true for some value of a test: the disjunction over both values
pub some_value_function : (s0 s1 s2 : StepDiagramsParts) (a test low high : ℕ) → KeepsSteps s0 s1 → KeepsSteps s1 s2 → IsStepId s0 a
    → IsStepDiagram s1 low (with_value Before test false (step_value s0 a)) → IsStepDiagram s2 high (with_value Before test true (step_value s1 a))
    → (x y : Atom) → length x ≡ s0.tests → length y ≡ s0.tests → (step_value s2 low x y || step_value s2 high x y) ≡ (step_value s0 a (set x test false) y || step_value s0 a (set x test true) y)
some_value_function s0 s1 s2 a test low high k1 k2 is d1 d2 x y lx ly =
    let k02 = KeepsSteps-trans s0 s1 s2 k1 k2 in
    ap₂ (λ p q. p || q)
    (step_value-kept s1 s2 k2 low d1.in_range x y ∙ d1.value x y (lx ∙ sym k1.tests) (ly ∙ sym k1.tests))
    (d2.value x y (lx ∙ sym k02.tests) (ly ∙ sym k02.tests) ∙ step_value-kept s0 s1 k1 a is (set x test true) y)

-- a test after the step gets its value from before the step
pub moved_function : (s0 s1 s2 : StepDiagramsParts) (a test low high : ℕ) → KeepsSteps s0 s1 → KeepsSteps s1 s2 → IsStepId s0 a
    → IsStepDiagram s1 low (with_value After test false (step_value s0 a)) → IsStepDiagram s2 high (with_value After test true (step_value s1 a))
    → (x y : Atom) → length x ≡ s0.tests → length y ≡ s0.tests → choice_by Before test (step_value s2 low) (step_value s2 high) x y ≡ step_value s0 a x (set y test (get_or x test false))
moved_function s0 s1 s2 a test low high k1 k2 is d1 d2 x y lx ly = by_value (get_or x test false)
  where
    by_value : (v : Bool) → cond v (step_value s2 high x y) (step_value s2 low x y) ≡ step_value s0 a x (set y test v)
    by_value true =
        let k02 = KeepsSteps-trans s0 s1 s2 k1 k2 in
        d2.value x y (lx ∙ sym k02.tests) (ly ∙ sym k02.tests) ∙ step_value-kept s0 s1 k1 a is x (set y test true)
    by_value false = step_value-kept s1 s2 k2 low d1.in_range x y ∙ d1.value x y (lx ∙ sym k1.tests) (ly ∙ sym k1.tests)

-- if `a` and the complement of `b` are never both true, `a` entails `b`, and conversely
module _ (s0 s1 s2 : StepDiagramsParts) (a b outside broken never : ℕ) (k1 : KeepsSteps s0 s1) (k2 : KeepsSteps s1 s2) (ia : IsStepId s0 a) (ib : IsStepId s0 b)
    (d1 : IsStepDiagram s1 outside (λ x y. not (step_value s0 b x y))) (d2 : IsStepDiagram s2 broken (λ x y. step_value s1 a x y && step_value s1 outside x y)) (d3 : IsStepDiagram s2 never (λ x y. false))
    (sound : AreStepDiagrams s2) (ids : EqualIdsAreEqualFunctions s2.diagrams) where
  broken_value : (x y : Atom) → length x ≡ s0.tests → length y ≡ s0.tests → step_value s2 broken x y ≡ (step_value s0 a x y && not (step_value s0 b x y))
  broken_value x y lx ly =
      let k02 = KeepsSteps-trans s0 s1 s2 k1 k2 in
      d2.value x y (lx ∙ sym k02.tests) (ly ∙ sym k02.tests)
      ∙ ap₂ (λ p q. p && q) (step_value-kept s0 s1 k1 a ia x y) (d1.value x y (lx ∙ sym k1.tests) (ly ∙ sym k1.tests))

  never_value : (x y : Atom) → length x ≡ s0.tests → length y ≡ s0.tests → step_value s2 never x y ≡ false
  never_value x y lx ly = let k02 = KeepsSteps-trans s0 s1 s2 k1 k2 in d3.value x y (lx ∙ sym k02.tests) (ly ∙ sym k02.tests)

  not_outside : (p q : Bool) → (p && not q) ≡ false → p ≡ true → q ≡ true
  not_outside true true e h = refl
  not_outside true false e h = cc
  not_outside false q e h = cc

  entailed_outside : (p q : Bool) → (p ≡ true → q ≡ true) → (p && not q) ≡ false
  entailed_outside true true f = refl
  entailed_outside true false f = let clash = f refl in cc
  entailed_outside false q f = refl

  pub never_entails : broken ≡ never → Entails s0 a b
  never_entails e x y lx ly h =
      not_outside (step_value s0 a x y) (step_value s0 b x y) (sym (broken_value x y lx ly) ∙ ap (λ id. step_value s2 id x y) e ∙ never_value x y lx ly) h

  pub entails_never : Entails s0 a b → broken ≡ never
  entails_never en = (ids.same broken never d2.in_range d3.in_range).1 same
    where
      same : SameFunction s2.diagrams broken never
      same z lz =
          let k02 = KeepsSteps-trans s0 s1 s2 k1 k2 in
          let p = atom_parts s2.tests z (lz ∙ sound.twice) in
          let lx : length p.before ≡ s0.tests = p.before_length ∙ k02.tests in
          let ly : length p.after ≡ s0.tests = p.after_length ∙ k02.tests in
          subst (λ w. value_of s2.diagrams broken w ≡ value_of s2.diagrams never w) p.is
          (broken_value p.before p.after lx ly ∙ entailed_outside (step_value s0 a p.before p.after) (step_value s0 b p.before p.after) (en p.before p.after lx ly) ∙ sym (never_value p.before p.after lx ly))
