-- The state of the finder when diagrams are added.
use Rattle.std.proofs.Common.{◌≡◌, sym, ◌∙◌, subst}
use Rattle.kat_model.specs.Problems.{ProblemParts}
use Rattle.outline_rules.specs.StepFunctions.{AreStepDiagrams, KeepsSteps}
use Rattle.outline_rules.proofs.StepSets.{KeepsSteps-itself}
use Rattle.goal_forms.specs.HypothesisForms.{allows}
use Rattle.hoare_outlines.specs.declared.finding.Finder.{Finder}
use Rattle.hoare_outlines.specs.Working.AtomSets.{IsSetId}
use Rattle.hoare_outlines.specs.Working.Found.{IsFinder}
use Rattle.hoare_outlines.proofs.SetIds.{set_kept}

pub finder_kept : (q : ProblemParts) (old new : Finder) → new.allowed ≡ old.allowed → KeepsSteps old.diagrams new.diagrams → AreStepDiagrams new.diagrams → IsFinder q old → IsFinder q new
finder_kept q old new same kept sound is =
    record {
      sound = sound;
      tests = kept.tests ∙ is.tests;
      allowed = subst (λ id. IsSetId new.diagrams id (allows q.hyps)) (sym same) (set_kept old.diagrams new.diagrams kept old.allowed (allows q.hyps) is.allowed);
    }

-- the state when notes are added
pub noted_kept : (old new : Finder) → new.diagrams ≡ old.diagrams → KeepsSteps old.diagrams new.diagrams
noted_kept old new same = subst (λ d. KeepsSteps old.diagrams d) (sym same) (KeepsSteps-itself old.diagrams)

pub finder_noted : (q : ProblemParts) (old new : Finder) → new.diagrams ≡ old.diagrams → new.allowed ≡ old.allowed → IsFinder q old → IsFinder q new
finder_noted q old new same allowed is = finder_kept q old new allowed (noted_kept old new same) (subst AreStepDiagrams (sym same) is.sound) is
