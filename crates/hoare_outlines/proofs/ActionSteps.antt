-- The result of the finder for an action: the image of a set under the steps that no hypothesis rules out.
use Rattle.std.proofs.Common.{◌≡◌, ℕ, ◌<◌, [], length, Bool, true, false, not, ◌&&◌, refl, sym, ap, ◌∙◌}
use mathlib.Core.Path.{ap₂}
use Rattle.std.proofs.lemmas.Bool.{and_parts, and_from, not-true}
use Rattle.kat_model.specs.Problems.{ProblemParts}
use Rattle.kat_model.specs.Steps.{Atom}
use Rattle.kat_model.specs.Trees.{act}
use Rattle.kat_model.proofs.Options.{same_bool}
use Rattle.while_lang.specs.Flows.{act as act_stmt}
use Rattle.outline_rules.specs.StepFunctions.{StepDiagramsParts, step_value, IsStepDiagram, KeepsSteps, IsImage}
use Rattle.outline_rules.proofs.StepSets.{KeepsSteps-trans, IsStepDiagram-kept}
use Rattle.goal_forms.specs.TestTerms.{AreSimple, IsRuledOut}
use Rattle.goal_forms.specs.HypothesisForms.{allows, some_rules_out}
use Rattle.goal_forms.proofs.SimpleForms.{allows_given, allowed_allows, ruled_out_given, given_ruled_out}
use Rattle.hoare_outlines.specs.Working.AtomSets.{AtomSet, IsSetId, IsAllowedSet}
use Rattle.hoare_outlines.specs.Working.Annotated.{LeadsInto}
use Rattle.hoare_outlines.specs.Working.Reached.{Reached}
use Rattle.hoare_outlines.specs.Working.Found.{StmtFound}

-- the atoms before a step at which a diagram is true, if the diagram does not depend on the atom after it
abbrev pub set_of : StepDiagramsParts → ℕ → AtomSet
set_of d id = λ atom. step_value d id atom atom

-- an image does not depend on the atom after the step
pub image_set : (old new : StepDiagramsParts) (relation image : ℕ) → new.tests ≡ old.tests → IsImage old relation new image → IsSetId new image (set_of new image)
image_set old new relation image tests is =
    record {
      in_range = is.in_range;
      value = λ x y lx ly. same_bool (step_value new image x y) (step_value new image x x) (moved x y x lx ly lx) (moved x x y lx lx ly);
    }
  where
    moved : (x y z : Atom) → length x ≡ new.tests → length y ≡ new.tests → length z ≡ new.tests → step_value new image x y ≡ true → step_value new image x z ≡ true
    moved x y z lx ly lz h =
        let s = is.source x y (lx ∙ tests) (ly ∙ tests) h in
        is.reached s.0 x z s.1 (lx ∙ tests) (lz ∙ tests) s.2

-- the steps from the set that no hypothesis rules out
abbrev pub step_set : ProblemParts → ℕ → AtomSet → Atom → Atom → Bool
step_set q a X x y = X x && not (some_rules_out q.hyps a x y)

pub steps_value : (q : ProblemParts) (a : ℕ) (X : AtomSet) (d0 d1 d2 d3 : StepDiagramsParts) (set ruled free steps : ℕ) → KeepsSteps d0 d1 → KeepsSteps d1 d2 → KeepsSteps d2 d3
    → IsSetId d0 set X → IsStepDiagram d1 ruled (some_rules_out q.hyps a) → IsStepDiagram d2 free (λ x y. not (step_value d1 ruled x y))
    → IsStepDiagram d3 steps (λ x y. step_value d2 set x y && step_value d2 free x y) → IsStepDiagram d3 steps (step_set q a X)
steps_value q a X d0 d1 d2 d3 set ruled free steps k1 k2 k3 is_set is_ruled is_free is_steps =
    record {
      in_range = is_steps.in_range;
      value = λ x y lx ly.
          let lx2 = lx ∙ k3.tests in
          let ly2 = ly ∙ k3.tests in
          let own = IsStepDiagram-kept d0 d2 (KeepsSteps-trans d0 d1 d2 k1 k2) set (λ v w. X v) is_set in
          is_steps.value x y lx ly
          ∙ ap₂ (λ p r. p && r) (own.value x y lx2 ly2) (is_free.value x y lx2 ly2 ∙ ap not (is_ruled.value x y (lx2 ∙ k2.tests) (ly2 ∙ k2.tests)));
    }

-- the allowed atoms of an image
abbrev pub end_set : ProblemParts → StepDiagramsParts → ℕ → AtomSet
end_set q d ends = λ atom. set_of d ends atom && allows q.hyps atom

pub ends_value : (q : ProblemParts) (d0 mid new : StepDiagramsParts) (allowed ends last : ℕ) → KeepsSteps d0 mid → KeepsSteps mid new → IsSetId d0 allowed (allows q.hyps) → IsSetId mid ends (set_of mid ends)
    → IsStepDiagram new last (λ x y. step_value mid ends x y && step_value mid allowed x y) → IsSetId new last (end_set q mid ends)
ends_value q d0 mid new allowed ends last k1 k2 is_allowed is_ends is_last =
    record {
      in_range = is_last.in_range;
      value = λ x y lx ly.
          let own = IsStepDiagram-kept d0 mid k1 allowed (λ v w. allows q.hyps v) is_allowed in
          is_last.value x y lx ly ∙ ap₂ (λ p r. p && r) (is_ends.value x y (lx ∙ k2.tests) (ly ∙ k2.tests)) (own.value x y (lx ∙ k2.tests) (ly ∙ k2.tests));
    }

pub action_found : (q : ProblemParts) (a : ℕ) (X : AtomSet) (old mid new : StepDiagramsParts) (steps ends last : ℕ) → AreSimple q.hyps → old.tests ≡ q.tests → a < q.actions → IsAllowedSet q X
    → IsStepDiagram old steps (step_set q a X) → IsImage old steps mid ends → IsSetId new last (end_set q mid ends) → StmtFound q (act_stmt a) new X [] last
action_found q a X old mid new steps ends last simple tests lt allowed is_steps is_image is_last =
    record {
      sets = [];
      are_sets = tt;
      end = end_set q mid ends;
      is_end = is_last;
      allowed = λ atom wide h. allows_given q.hyps atom (and_parts (set_of mid ends atom) (allows q.hyps atom) h).1;
      annotated = (refl, leads);
      reached = reached;
    }
  where
    leads : LeadsInto q X a (end_set q mid ends)
    leads x y lx ly ax ay h miss = by_value (some_rules_out q.hyps a x y) refl
      where
        by_value : (b : Bool) → some_rules_out q.hyps a x y ≡ b → IsRuledOut q.hyps a x y
        by_value true e = ruled_out_given q.hyps a x y simple e
        by_value false e =
            let step : step_set q a X x y ≡ true = and_from (X x) (not (some_rules_out q.hyps a x y)) h (ap not e) in
            let there : set_of mid ends y ≡ true = is_image.reached x y y (lx ∙ sym tests) (ly ∙ sym tests) (ly ∙ sym tests) (is_steps.value x y (lx ∙ sym tests) (ly ∙ sym tests) ∙ step) in
            let inside : end_set q mid ends y ≡ true = and_from (set_of mid ends y) (allows q.hyps y) there (allowed_allows q.hyps y ay) in
            cc

    reached : Reached q (act a) X (end_set q mid ends)
    reached to wide h =
        let own = wide ∙ sym tests in
        let s = is_image.source to to own own (and_parts (set_of mid ends to) (allows q.hyps to) h).0 in
        let both = and_parts (X s.0) (not (some_rules_out q.hyps a s.0 to)) (sym (is_steps.value s.0 to s.1 own) ∙ s.2) in
        (s.0, (s.1 ∙ tests, allowed s.0 (s.1 ∙ tests) both.0), both.0, (lt, never s.0 to both.1))
      where
        never : (x y : Atom) → not (some_rules_out q.hyps a x y) ≡ true → IsRuledOut q.hyps a x y → ⊥
        never x y e r =
            let there : some_rules_out q.hyps a x y ≡ true = given_ruled_out q.hyps a x y r in
            let none : some_rules_out q.hyps a x y ≡ false = not-true (some_rules_out q.hyps a x y) e in
            cc
