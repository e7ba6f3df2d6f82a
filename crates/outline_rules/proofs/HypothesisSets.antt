-- The diagrams of hypotheses, extended by one hypothesis at a time.
use Rattle.std.proofs.Common.{◌≡◌, ℕ, ◌+◌, ◌<◌, ◌≤◌, List, [], ◌∷◌, ◌++◌, map, length, take, get_or, Bool, true, false, not, ◌&&◌, ◌||◌, cond, Result, refl, sym, ap, ◌∙◌}
use mathlib.Core.Path.{ap₂}
use Rattle.std.proofs.Math.Bool.{and-true, or-false}
use Rattle.std.specs.List.{list_all, list_any}
use Rattle.std.specs.Result.{IfOk}
use Rattle.std.proofs.lemmas.List.{take_all, map_more}
use Rattle.std.proofs.lemmas.List.Folds.{list_all-append, list_any-append}
use Rattle.kat_model.specs.Trees.{Term, product, kat_tree, is_test}
use Rattle.kat_model.specs.declared.tree.Kat.{Kat}
use Rattle.kat_model.specs.Steps.{Atom, out}
use Rattle.outline_rules.specs.declared.moments.Moment.{Moment}
use Rattle.outline_rules.specs.Interleaved.{atom_at_moment}
use Rattle.outline_rules.specs.StepFunctions.{StepDiagramsParts, step_value, IsStepId, IsStepDiagram, KeepsSteps}
use Rattle.outline_rules.proofs.StepSets.{IsStepDiagram-same, KeepsSteps-trans, step_value-kept, tail_same, tail_joined}
use Rattle.goal_forms.specs.HypothesisForms.{allows, rules_out, some_rules_out}

pub allows-push : (hyps : List Term) (h : Term) (atom : Atom) → allows (hyps ++ h ∷ []) atom ≡ (allows hyps atom && not (is_test h && out h atom))
allows-push hyps h atom = list_all-append (λ g. not (is_test g && out g atom)) hyps (h ∷ []) ∙ ap (λ b. allows hyps atom && b) (and-true (not (is_test h && out h atom)))

pub some_rules_out-push : (hyps : List Term) (h : Term) (a : ℕ) (x y : Atom) → some_rules_out (hyps ++ h ∷ []) a x y ≡ (some_rules_out hyps a x y || rules_out h a x y)
some_rules_out-push hyps h a x y = list_any-append (λ g. rules_out g a x y) hyps (h ∷ []) ∙ ap (λ b. some_rules_out hyps a x y || b) (or-false (rules_out h a x y))

more : (hyps : List Kat) (i : ℕ) (h : Kat) → i < length hyps → h ≡ get_or hyps i h → map kat_tree (take (i + 1) hyps) ≡ map kat_tree (take i hyps) ++ kat_tree h ∷ []
more hyps i h lt is = map_more kat_tree hyps i h lt ∙ ap (λ g. map kat_tree (take i hyps) ++ kat_tree g ∷ []) (sym is)

all : (hyps : List Kat) (i : ℕ) → length hyps ≤ i → map kat_tree (take i hyps) ≡ map kat_tree hyps
all hyps i le = ap (map kat_tree) (take_all i hyps le)

module _ (mid new : StepDiagramsParts) (kept : KeepsSteps mid new) (hyps : List Kat) (i : ℕ) (h : Kat) (lt : i < length hyps) (is : h ≡ get_or hyps i h) where
  -- adding a hypothesis, which restricts the allowed atoms if it is a test term
  pub allowed_more : (moment : Moment) (set with_one : ℕ) → IsStepDiagram mid set (λ x y. allows (map kat_tree (take i hyps)) (atom_at_moment moment x y))
      → IsStepDiagram new with_one (λ x y. step_value mid set x y && not (is_test (kat_tree h) && out (kat_tree h) (atom_at_moment moment x y)))
      → IsStepDiagram new with_one (λ x y. allows (map kat_tree (take (i + 1) hyps)) (atom_at_moment moment x y))
  allowed_more moment set with_one was now =
      IsStepDiagram-same new with_one _ _ now
      (λ x y lx ly.
      ap (λ b. b && not (is_test (kat_tree h) && out (kat_tree h) (atom_at_moment moment x y))) (was.value x y (lx ∙ kept.tests) (ly ∙ kept.tests))
      ∙ sym (ap (λ (l : List Term). allows l (atom_at_moment moment x y)) (more hyps i h lt is) ∙ allows-push (map kat_tree (take i hyps)) (kat_tree h) (atom_at_moment moment x y)))

-- the atoms of a set at which a hypothesis that is a test is not true
pub tail_left : {E : Type 0} (s0 s1 s2 s3 : StepDiagramsParts) (set taken left : ℕ) (r : Result ℕ E) (h : Term) (moment : Moment) → is_test h ≡ true → KeepsSteps s0 s1 → KeepsSteps s1 s2 → KeepsSteps s2 s3 → IsStepId s0 set
    → IsStepDiagram s1 taken (λ x y. out h (atom_at_moment moment x y)) → IsStepDiagram s2 left (λ x y. not (step_value s1 taken x y))
    → IfOk r (λ id. IsStepDiagram s3 id (λ x y. step_value s2 set x y && step_value s2 left x y))
    → IfOk r (λ id. IsStepDiagram s3 id (λ x y. step_value s0 set x y && not (is_test h && out h (atom_at_moment moment x y))))
tail_left s0 s1 s2 s3 set taken left r h moment test k1 k2 k3 is own complement now =
    tail_same r s3 _ _ now
    (λ x y lx ly.
    ap₂ (λ p q. p && q)
    (step_value-kept s0 s2 (KeepsSteps-trans s0 s1 s2 k1 k2) set is x y)
    (complement.value x y (lx ∙ k3.tests) (ly ∙ k3.tests)
    ∙ ap not (own.value x y (lx ∙ k3.tests ∙ k2.tests) (ly ∙ k3.tests ∙ k2.tests) ∙ sym (ap (λ b. b && out h (atom_at_moment moment x y)) test))))

-- the steps that a product rules out, by its first part if that is a test, and else by its second
pub tail_test_first : {E : Type 0} (s1 s2 s3 : StepDiagramsParts) (a b : ℕ) (r : Result ℕ E) (e f : Term) (action : ℕ) → is_test e ≡ true → KeepsSteps s1 s2 → KeepsSteps s2 s3
    → IsStepDiagram s1 a (λ x y. out e x) → IsStepDiagram s2 b (rules_out f action)
    → IfOk r (λ id. IsStepDiagram s3 id (λ x y. step_value s2 a x y && step_value s2 b x y)) → IfOk r (λ id. IsStepDiagram s3 id (rules_out (product e f) action))
tail_test_first s1 s2 s3 a b r e f action test k2 k3 da db now =
    tail_same r s3 _ _ (tail_joined (λ p q. p && q) s1 s2 s3 a b r _ _ k2 k3 da db now)
    (λ x y lx ly. sym (ap (λ t. cond t (out e x && rules_out f action x y) (rules_out e action x y && out f y)) test))

pub tail_test_second : {E : Type 0} (s1 s2 s3 : StepDiagramsParts) (a b : ℕ) (r : Result ℕ E) (e f : Term) (action : ℕ) → is_test e ≡ false → KeepsSteps s1 s2 → KeepsSteps s2 s3
    → IsStepDiagram s1 a (rules_out e action) → IsStepDiagram s2 b (λ x y. out f y)
    → IfOk r (λ id. IsStepDiagram s3 id (λ x y. step_value s2 a x y && step_value s2 b x y)) → IfOk r (λ id. IsStepDiagram s3 id (rules_out (product e f) action))
tail_test_second s1 s2 s3 a b r e f action test k2 k3 da db now =
    tail_same r s3 _ _ (tail_joined (λ p q. p && q) s1 s2 s3 a b r _ _ k2 k3 da db now)
    (λ x y lx ly. sym (ap (λ t. cond t (out e x && rules_out f action x y) (rules_out e action x y && out f y)) test))

-- adding a hypothesis that may rule out steps
pub ruled_out_more : (first mid new : StepDiagramsParts) (hyps : List Kat) (i : ℕ) (h : Kat) (a steps one with_one : ℕ) → KeepsSteps first mid → KeepsSteps mid new → i < length hyps → h ≡ get_or hyps i h
    → IsStepDiagram first steps (some_rules_out (map kat_tree (take i hyps)) a) → IsStepDiagram mid one (rules_out (kat_tree h) a)
    → IsStepDiagram new with_one (λ x y. step_value mid steps x y || step_value mid one x y)
    → IsStepDiagram new with_one (some_rules_out (map kat_tree (take (i + 1) hyps)) a)
ruled_out_more first mid new hyps i h a steps one with_one k1 k2 lt is was own now =
    IsStepDiagram-same new with_one _ _ now
    (λ x y lx ly.
    ap₂ (λ p q. p || q)
    (step_value-kept first mid k1 steps was.in_range x y ∙ was.value x y (lx ∙ k2.tests ∙ k1.tests) (ly ∙ k2.tests ∙ k1.tests))
    (own.value x y (lx ∙ k2.tests) (ly ∙ k2.tests))
    ∙ sym (ap (λ (l : List Term). some_rules_out l a x y) (more hyps i h lt is) ∙ some_rules_out-push (map kat_tree (take i hyps)) (kat_tree h) a x y))

-- after all hypotheses
pub allowed_all : (d : StepDiagramsParts) (hyps : List Kat) (i set : ℕ) (moment : Moment) → length hyps ≤ i → IsStepDiagram d set (λ x y. allows (map kat_tree (take i hyps)) (atom_at_moment moment x y)) → IsStepDiagram d set (λ x y. allows (map kat_tree hyps) (atom_at_moment moment x y))
allowed_all d hyps i set moment le is = IsStepDiagram-same d set _ _ is (λ x y lx ly. ap (λ (l : List Term). allows l (atom_at_moment moment x y)) (all hyps i le))

pub ruled_out_all : (d : StepDiagramsParts) (hyps : List Kat) (i steps a : ℕ) → length hyps ≤ i → IsStepDiagram d steps (some_rules_out (map kat_tree (take i hyps)) a) → IsStepDiagram d steps (some_rules_out (map kat_tree hyps) a)
ruled_out_all d hyps i steps a le is = IsStepDiagram-same d steps _ _ is (λ x y lx ly. ap (λ (l : List Term). some_rules_out l a x y) (all hyps i le))
