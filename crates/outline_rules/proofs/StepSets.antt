-- Diagrams over twice as many tests, as functions of two atoms.
use Rattle.std.proofs.Common.{◌≡◌, ℕ, ◌+◌, length, get_or, Bool, true, false, not, ◌&&◌, ◌||◌, cond, Result, Ok, Err, refl, sym, ap, ◌∙◌}
use mathlib.Core.Path.{ap₂}
use Rattle.std.proofs.Math.ListN.{set}
use Rattle.std.specs.Result.{IfOk}
use Rattle.kat_model.specs.Steps.{Atom}
use Rattle.test_diagrams.specs.Functions.{value_of, IsDiagramOf}
use Rattle.test_diagrams.proofs.Kept.{KeepsFunctions-itself, KeepsFunctions-trans}
use Rattle.outline_rules.specs.declared.moments.Moment.{Moment}
use Rattle.outline_rules.specs.declared.moments.Moment.TheVariants.{Before, After}
use Rattle.outline_rules.specs.Interleaved.{interleaved, atom_at_moment, copy_number, with_value}
use Rattle.outline_rules.specs.StepFunctions.{StepDiagramsParts, AreStepDiagrams, step_value, IsStepId, IsStepDiagram, KeepsSteps}
use Rattle.outline_rules.proofs.Interleaving.{length-interleaved, get_or-before, get_or-after, set-before, set-after}

-- two interleaved atoms have a value for each test of the diagrams
pub whole_length : (d : StepDiagramsParts) (x y : Atom) → AreStepDiagrams d → length x ≡ d.tests → length y ≡ d.tests → length (interleaved x y) ≡ d.diagrams.tests
whole_length d x y sound ex ey = length-interleaved x y d.tests ex ey ∙ sym sound.twice

-- a function of the interleaved atom is a function of both atoms
pub step_diagram : (d : StepDiagramsParts) (id : ℕ) (f : Atom → Bool) (g : Atom → Atom → Bool) → AreStepDiagrams d → IsDiagramOf d.diagrams id f → ((x y : Atom) → length x ≡ d.tests → length y ≡ d.tests → f (interleaved x y) ≡ g x y) → IsStepDiagram d id g
step_diagram d id f g sound is same =
    record {
      in_range = is.in_range;
      value = λ x y ex ey. is.value (interleaved x y) (whole_length d x y sound ex ey) ∙ same x y ex ey;
    }

pub KeepsSteps-itself : (d : StepDiagramsParts) → KeepsSteps d d
KeepsSteps-itself d = record { tests = refl; functions = KeepsFunctions-itself d.diagrams }

pub KeepsSteps-trans : (a b c : StepDiagramsParts) → KeepsSteps a b → KeepsSteps b c → KeepsSteps a c
KeepsSteps-trans a b c p q = record { tests = q.tests ∙ p.tests; functions = KeepsFunctions-trans a.diagrams b.diagrams c.diagrams p.functions q.functions }

module _ (old new : StepDiagramsParts) (kept : KeepsSteps old new) where
  pub IsStepId-kept : (id : ℕ) → IsStepId old id → IsStepId new id
  IsStepId-kept id is = kept.functions.ids id is

  pub step_value-kept : (id : ℕ) → IsStepId old id → (x y : Atom) → step_value new id x y ≡ step_value old id x y
  step_value-kept id is x y = kept.functions.values id is (interleaved x y)

  pub IsStepDiagram-kept : (id : ℕ) (f : Atom → Atom → Bool) → IsStepDiagram old id f → IsStepDiagram new id f
  IsStepDiagram-kept id f is =
      record {
        in_range = IsStepId-kept id is.in_range;
        value = λ x y ex ey. step_value-kept id is.in_range x y ∙ is.value x y (ex ∙ kept.tests) (ey ∙ kept.tests);
      }

-- a function may be replaced by one with equal values
pub IsStepDiagram-same : (d : StepDiagramsParts) (id : ℕ) (f g : Atom → Atom → Bool) → IsStepDiagram d id f → ((x y : Atom) → length x ≡ d.tests → length y ≡ d.tests → f x y ≡ g x y) → IsStepDiagram d id g
IsStepDiagram-same d id f g is same = record { in_range = is.in_range; value = λ x y ex ey. is.value x y ex ey ∙ same x y ex ey }

-- the result of a call on the diagrams that may fail
pub tail_diagram : {E : Type 0} (r : Result ℕ E) (d : StepDiagramsParts) (f : Atom → Bool) (g : Atom → Atom → Bool) → AreStepDiagrams d → IfOk r (λ id. IsDiagramOf d.diagrams id f)
    → ((x y : Atom) → length x ≡ d.tests → length y ≡ d.tests → f (interleaved x y) ≡ g x y) → IfOk r (λ id. IsStepDiagram d id g)
tail_diagram (Ok id) d f g sound is same = step_diagram d id f g sound is same
tail_diagram (Err e) d f g sound is same = tt

pub tail_same : {E : Type 0} (r : Result ℕ E) (d : StepDiagramsParts) (f g : Atom → Atom → Bool) → IfOk r (λ id. IsStepDiagram d id f)
    → ((x y : Atom) → length x ≡ d.tests → length y ≡ d.tests → f x y ≡ g x y) → IfOk r (λ id. IsStepDiagram d id g)
tail_same (Ok id) d f g is same = IsStepDiagram-same d id f g is same
tail_same (Err e) d f g is same = tt

-- the complement of a function
pub tail_complement : {E : Type 0} (s1 s2 : StepDiagramsParts) (a : ℕ) (r : Result ℕ E) (f : Atom → Atom → Bool) → KeepsSteps s1 s2 → IsStepDiagram s1 a f
    → IfOk r (λ id. IsStepDiagram s2 id (λ x y. not (step_value s1 a x y))) → IfOk r (λ id. IsStepDiagram s2 id (λ x y. not (f x y)))
tail_complement s1 s2 a r f kept da is = tail_same r s2 _ _ is (λ x y lx ly. ap not (da.value x y (lx ∙ kept.tests) (ly ∙ kept.tests)))

-- an operation on two functions, of which the second was computed after the first
pub tail_joined : {E : Type 0} (op : Bool → Bool → Bool) (s1 s2 s3 : StepDiagramsParts) (a b : ℕ) (r : Result ℕ E) (f g : Atom → Atom → Bool) → KeepsSteps s1 s2 → KeepsSteps s2 s3 → IsStepDiagram s1 a f → IsStepDiagram s2 b g
    → IfOk r (λ id. IsStepDiagram s3 id (λ x y. op (step_value s2 a x y) (step_value s2 b x y))) → IfOk r (λ id. IsStepDiagram s3 id (λ x y. op (f x y) (g x y)))
tail_joined op s1 s2 s3 a b r f g k2 k3 da db is =
    let first = IsStepDiagram-kept s1 s2 k2 a f da in
    tail_same r s3 _ _ is (λ x y lx ly. ap₂ op (first.value x y (lx ∙ k3.tests) (ly ∙ k3.tests)) (db.value x y (lx ∙ k3.tests) (ly ∙ k3.tests)))

-- the value of the copy of a test, and an atom with another value there
pub copy_value : (moment : Moment) (test j : ℕ) (x y : Atom) → length x ≡ length y → j ≡ copy_number test moment → get_or (interleaved x y) j false ≡ get_or (atom_at_moment moment x y) test false
copy_value Before test j x y e is = get_or-before x y test j e is
copy_value After test j x y e is = get_or-after x y test j e is

pub copy_set : (d : StepDiagramsParts) (id : ℕ) (moment : Moment) (test j : ℕ) (v : Bool) (x y : Atom) → length x ≡ length y → j ≡ copy_number test moment → value_of d.diagrams id (set (interleaved x y) j v) ≡ with_value moment test v (step_value d id) x y
copy_set d id Before test j v x y e is = ap (value_of d.diagrams id) (set-before x y test j v e is)
copy_set d id After test j v x y e is = ap (value_of d.diagrams id) (set-after x y test j v e is)

-- the value of a choice
pub choice_values : (b low high : Bool) → ((not b && low) || (b && high)) ≡ cond b high low
choice_values true low high = refl
choice_values false true high = refl
choice_values false false high = refl
