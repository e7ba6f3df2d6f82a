-- Conditions of an outline as entailments of diagrams.
use Rattle.std.proofs.Common.{◌≡◌, ℕ, ◌↔◌, List, length, Bool, true, false, not, ◌&&◌, Result, Ok, Err, refl, sym, ap, ◌∙◌}
use mathlib.Core.Path.{ap₂}
use Rattle.std.specs.Bool.{IsTrue}
use Rattle.std.specs.Result.{IfOk}
use Rattle.std.proofs.lemmas.Bool.{false≢true, and_parts, and_from, not-true}
use Rattle.kat_model.specs.Trees.{TestTree, Term}
use Rattle.kat_model.specs.Problems.{ProblemParts}
use Rattle.kat_model.specs.Steps.{Atom, truth}
use Rattle.outline_rules.specs.StepFunctions.{StepDiagramsParts, step_value, IsStepId, IsStepDiagram, KeepsSteps, Entails, IsImage}
use Rattle.outline_rules.proofs.StepSets.{KeepsSteps-trans, IsStepId-kept, IsStepDiagram-kept, step_value-kept}
use Rattle.goal_forms.specs.TestTerms.{AreSimple, IsAllowed, IsRuledOut}
use Rattle.outline_rules.specs.Follows.{starts, implies, leads, ends, IsMet}
use Rattle.goal_forms.specs.HypothesisForms.{allows, some_rules_out}
use Rattle.outline_rules.specs.Working.Sets.{EntailsUnder, free_step, AreEnds}
use Rattle.goal_forms.proofs.SimpleForms.{allows_given, allowed_allows, ruled_out_given, given_ruled_out}

-- an implication of functions, as an entailment of diagrams states it
abbrev pub Implied : ℕ → (Atom → Atom → Bool) → (Atom → Atom → Bool) → (Atom → Atom → Bool) → (Atom → Atom → Bool) → Type 0
Implied tests f g h k = (x y : Atom) → length x ≡ tests → length y ≡ tests → f x y ≡ true → g x y ≡ true → h x y ≡ true → k x y ≡ true

pub entails_implied : (d : StepDiagramsParts) (a b c e : ℕ) (f g h k : Atom → Atom → Bool) → IsStepDiagram d a f → IsStepDiagram d b g → IsStepDiagram d c h → IsStepDiagram d e k → EntailsUnder d a b c e ↔ Implied d.tests f g h k
entails_implied d a b c e f g h k fa gb hc ke = (
  (λ en x y lx ly p q r. sym (ke.value x y lx ly) ∙ en x y lx ly (fa.value x y lx ly ∙ p) (gb.value x y lx ly ∙ q) (hc.value x y lx ly ∙ r)),
  (λ im x y lx ly p q r. ke.value x y lx ly ∙ im x y lx ly (sym (fa.value x y lx ly) ∙ p) (sym (gb.value x y lx ly) ∙ q) (sym (hc.value x y lx ly) ∙ r)),
)

-- an entailment from the intersection of three sets
pub under_entails : (d0 d1 d2 : StepDiagramsParts) (allowed from guard to both there : ℕ) → KeepsSteps d0 d1 → KeepsSteps d1 d2 → IsStepId d0 allowed → IsStepId d0 to
    → IsStepDiagram d1 both (λ x y. step_value d0 from x y && step_value d0 guard x y) → IsStepDiagram d2 there (λ x y. step_value d1 allowed x y && step_value d1 both x y) → Entails d2 there to ↔ EntailsUnder d0 allowed from guard to
under_entails d0 d1 d2 allowed from guard to both there k1 k2 is_allowed is_to is_both is_there = (
  (λ en x y lx ly a f g.
      let lx2 = lx ∙ sym k1.tests ∙ sym k2.tests in
      let ly2 = ly ∙ sym k1.tests ∙ sym k2.tests in
      sym (last x y) ∙ en x y lx2 ly2 (inside x y lx2 ly2 ∙ and_from (step_value d0 allowed x y) _ a (and_from (step_value d0 from x y) (step_value d0 guard x y) f g))),
  (λ un x y lx ly h.
      let all = and_parts (step_value d0 allowed x y) (step_value d0 from x y && step_value d0 guard x y) (sym (inside x y lx ly) ∙ h) in
      let two = and_parts (step_value d0 from x y) (step_value d0 guard x y) all.1 in
      last x y ∙ un x y (lx ∙ k2.tests ∙ k1.tests) (ly ∙ k2.tests ∙ k1.tests) all.0 two.0 two.1),
)
  where
    last : (x y : Atom) → step_value d2 to x y ≡ step_value d0 to x y
    last x y = step_value-kept d1 d2 k2 to (IsStepId-kept d0 d1 k1 to is_to) x y ∙ step_value-kept d0 d1 k1 to is_to x y

    inside : (x y : Atom) → length x ≡ d2.tests → length y ≡ d2.tests → step_value d2 there x y ≡ (step_value d0 allowed x y && (step_value d0 from x y && step_value d0 guard x y))
    inside x y lx ly = is_there.value x y lx ly ∙ ap₂ (λ p r. p && r) (step_value-kept d0 d1 k1 allowed is_allowed x y) (is_both.value x y (lx ∙ k2.tests) (ly ∙ k2.tests))

module _ (q : ProblemParts) (note : ℕ → Atom → Bool) where
  -- a note and a guard imply another note
  pub implies_implied : (from to : ℕ) (b : TestTree) → Implied q.tests (λ x y. allows q.hyps x) (λ x y. note from x) (λ x y. truth b x) (λ x y. note to x) ↔ IsMet q note (implies from b to)
  implies_implied from to b = (
    (λ im x lx is n t. im x x lx lx (allowed_allows q.hyps x is) n t),
    (λ met x y lx ly al n t. met x lx (allows_given q.hyps x al) n t),
  )

  -- the pre-condition implies the first note
  pub starts_implied : (pre : TestTree) → Implied q.tests (λ x y. allows q.hyps x) (λ x y. truth pre x) (λ x y. true) (λ x y. note 0 x) ↔ IsMet q note (starts pre)
  starts_implied pre = (
    (λ im x lx is t. im x x lx lx (allowed_allows q.hyps x is) t refl),
    (λ met x y lx ly al t r. met x lx (allows_given q.hyps x al) t),
  )

  -- the last note implies the post-condition
  pub ends_implied : (from : ℕ) (post : TestTree) → Implied q.tests (λ x y. allows q.hyps x) (λ x y. note from x) (λ x y. true) (λ x y. truth post x) ↔ IsMet q note (ends from post)
  ends_implied from post = (
    (λ im x lx is n. im x x lx lx (allowed_allows q.hyps x is) n refl),
    (λ met x y lx ly al n r. met x lx (allows_given q.hyps x al) n),
  )

  -- an action leads from one note to another: the second note has the ends of its steps
  pub leads_met : AreSimple q.hyps → (from a to : ℕ) (d : StepDiagramsParts) (allowed led always target : ℕ) → d.tests ≡ q.tests → IsStepDiagram d allowed (λ x y. allows q.hyps x) → AreEnds q.tests (free_step q.hyps a (allows q.hyps) (note from)) d led
      → IsStepDiagram d always (λ x y. true) → IsStepDiagram d target (λ x y. note to x) → EntailsUnder d allowed led always target ↔ IsMet q note (leads from a to)
  leads_met simple from a to d allowed led always target tests is_allowed are_ends is_always is_target = (
    (λ en x y lx ly ax ay n miss. ruled en x y lx ly ax ay n miss (some_rules_out q.hyps a x y) refl),
    (λ met x y lx ly al e r. is_target.value x y lx ly ∙ inside met x y lx ly al e (note to x) refl),
  )
    where
      ruled : EntailsUnder d allowed led always target → (x y : Atom) → length x ≡ q.tests → length y ≡ q.tests → IsAllowed q.hyps x → IsAllowed q.hyps y → note from x ≡ true → note to y ≡ false → (b : Bool) → some_rules_out q.hyps a x y ≡ b → IsRuledOut q.hyps a x y
      ruled en x y lx ly ax ay n miss true e = ruled_out_given q.hyps a x y simple e
      ruled en x y lx ly ax ay n miss false e =
          let own = ly ∙ sym tests in
          let step : free_step q.hyps a (allows q.hyps) (note from) x y ≡ true = and_from (allows q.hyps x && note from x) (not (some_rules_out q.hyps a x y)) (and_from (allows q.hyps x) (note from x) (allowed_allows q.hyps x ax) n) (ap not e) in
          let there = en y y own own (is_allowed.value y y own own ∙ allowed_allows q.hyps y ay) (are_ends.reached x y y lx ly ly step) (is_always.value y y own own) in
          let hit : note to y ≡ true = sym (is_target.value y y own own) ∙ there in
          absurd (false≢true (sym miss ∙ hit))

      inside : IsMet q note (leads from a to) → (x y : Atom) → length x ≡ d.tests → length y ≡ d.tests → step_value d allowed x y ≡ true → step_value d led x y ≡ true → (b : Bool) → note to x ≡ b → note to x ≡ true
      inside met x y lx ly al e true is = is
      inside met x y lx ly al e false miss =
          let s = are_ends.source x y (lx ∙ tests) (ly ∙ tests) e in
          let step = and_parts (allows q.hyps s.0 && note from s.0) (not (some_rules_out q.hyps a s.0 x)) s.2 in
          let both = and_parts (allows q.hyps s.0) (note from s.0) step.0 in
          let out = given_ruled_out q.hyps a s.0 x (met s.0 x s.1 (lx ∙ tests) (allows_given q.hyps s.0 both.0) (allows_given q.hyps x (sym (is_allowed.value x y lx ly) ∙ al)) both.1 miss) in
          absurd (false≢true (sym (not-true (some_rules_out q.hyps a s.0 x) step.1) ∙ out))

-- an answer for a fact is an answer for an equivalent fact
pub given_same : {E : Type 0} {A B : Type 0} (r : Result Bool E) → IfOk r (λ b. IsTrue b ↔ A) → A ↔ B → IfOk r (λ b. IsTrue b ↔ B)
given_same (Ok b) given same = ((λ h. same.0 (given.0 h)), (λ h. given.1 (same.1 h)))
given_same (Err e) given same = tt

pub then_same : {A B C : Type 0} → A ↔ B → B ↔ C → A ↔ C
then_same p q = ((λ a. q.0 (p.0 a)), (λ c. p.1 (q.1 c)))

-- an implication over an equal number of tests
pub implied_tests : (m n : ℕ) (f g h k : Atom → Atom → Bool) → m ≡ n → Implied m f g h k ↔ Implied n f g h k
implied_tests m n f g h k e = (
  (λ im x y lx ly. im x y (lx ∙ sym e) (ly ∙ sym e)),
  (λ im x y lx ly. im x y (lx ∙ e) (ly ∙ e)),
)

-- the image of the free steps from the intersection of both sets
pub ends_are : (d0 d1 d2 d3 d4 d5 : StepDiagramsParts) (hyps : List Term) (a tests allowed from ruled free there steps led : ℕ) (f g : Atom → Bool) → KeepsSteps d0 d1 → KeepsSteps d1 d2 → KeepsSteps d2 d3 → KeepsSteps d3 d4 → d4.tests ≡ tests
    → IsStepDiagram d0 allowed (λ x y. f x) → IsStepDiagram d0 from (λ x y. g x) → IsStepDiagram d1 ruled (some_rules_out hyps a) → IsStepDiagram d2 free (λ x y. not (step_value d1 ruled x y))
    → IsStepDiagram d3 there (λ x y. step_value d2 allowed x y && step_value d2 from x y) → IsStepDiagram d4 steps (λ x y. step_value d3 there x y && step_value d3 free x y) → IsImage d4 steps d5 led → AreEnds tests (free_step hyps a f g) d5 led
ends_are d0 d1 d2 d3 d4 d5 hyps a tests allowed from ruled free there steps led f g k1 k2 k3 k4 same is_allowed is_from is_ruled is_free is_there is_steps image =
    record {
      in_range = image.in_range;
      reached = λ x y z lx ly lz r. image.reached x y z (lx ∙ sym same) (ly ∙ sym same) (lz ∙ sym same) (value x y (lx ∙ sym same) (ly ∙ sym same) ∙ r);
      source = λ y z ly lz h.
          let s = image.source y z (ly ∙ sym same) (lz ∙ sym same) h in
          (s.0, s.1 ∙ same, sym (value s.0 y s.1 (ly ∙ sym same)) ∙ s.2);
    }
  where
    value : (x y : Atom) → length x ≡ d4.tests → length y ≡ d4.tests → step_value d4 steps x y ≡ free_step hyps a f g x y
    value x y lx ly =
        let k02 = KeepsSteps-trans d0 d1 d2 k1 k2 in
        let lx3 = lx ∙ k4.tests in
        let ly3 = ly ∙ k4.tests in
        let lx2 = lx3 ∙ k3.tests in
        let ly2 = ly3 ∙ k3.tests in
        let both = ap₂ (λ p r. p && r) ((IsStepDiagram-kept d0 d2 k02 allowed (λ v w. f v) is_allowed).value x y lx2 ly2) ((IsStepDiagram-kept d0 d2 k02 from (λ v w. g v) is_from).value x y lx2 ly2) in
        let left = is_there.value x y lx3 ly3 ∙ both in
        let right = step_value-kept d2 d3 k3 free is_free.in_range x y ∙ is_free.value x y lx2 ly2 ∙ ap not (is_ruled.value x y (lx2 ∙ k2.tests) (ly2 ∙ k2.tests)) in
        is_steps.value x y lx ly ∙ ap₂ (λ p r. p && r) left right
