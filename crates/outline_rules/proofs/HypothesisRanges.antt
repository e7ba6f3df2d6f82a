-- The tests of the hypotheses of a problem are tests of the problem; and diagrams of its list of hypotheses are
-- diagrams of an equal list.
use Rattle.std.proofs.Common.{◌≡◌, ℕ, zero, suc, List, [], ◌∷◌, map, All, sym, subst, arith}
use Rattle.kat_model.specs.Trees.{Term, kat_tree}
use Rattle.kat_model.specs.declared.tree.Kat.{Kat}
use Rattle.kat_model.specs.Problems.{ProblemParts, IsProblem, HasTestsBelow, AreInRange}
use Rattle.kat_model.proofs.Ranges.{IsInRange-HasTestsBelow}
use Rattle.outline_rules.specs.declared.moments.Moment.{Moment}
use Rattle.outline_rules.specs.Interleaved.{atom_at_moment}
use Rattle.outline_rules.specs.StepFunctions.{StepDiagramsParts, IsStepDiagram}
use Rattle.goal_forms.specs.HypothesisForms.{allows, some_rules_out}

hyps_below : (tests actions : ℕ) (xs : List Kat) → AreInRange tests actions (map kat_tree xs) → All (λ h. HasTestsBelow tests (kat_tree h)) xs
hyps_below tests actions [] r k d lt = absurd (omega (arith, lt))
hyps_below tests actions (x ∷ xs) r zero d lt = IsInRange-HasTestsBelow tests actions (kat_tree x) r.0
hyps_below tests actions (x ∷ xs) r (suc k) d lt = hyps_below tests actions xs r.1 k d (omega (arith, lt))

pub problem_hyps : (q : ProblemParts) (xs : List Kat) (n : ℕ) → IsProblem q → map kat_tree xs ≡ q.hyps → n ≡ q.tests → All (λ h. HasTestsBelow n (kat_tree h)) xs
problem_hyps q xs n is same e =
    subst (λ m. All (λ h. HasTestsBelow m (kat_tree h)) xs) (sym e) (hyps_below q.tests q.actions xs (subst (AreInRange q.tests q.actions) (sym same) is.hyps))

pub allowed_by : (d : StepDiagramsParts) (id : ℕ) (moment : Moment) (hyps same : List Term) → hyps ≡ same → IsStepDiagram d id (λ x y. allows hyps (atom_at_moment moment x y)) → IsStepDiagram d id (λ x y. allows same (atom_at_moment moment x y))
allowed_by d id moment hyps same e is = subst (λ (hs : List Term). IsStepDiagram d id (λ x y. allows hs (atom_at_moment moment x y))) e is

pub ruled_out_by : (d : StepDiagramsParts) (id action : ℕ) (hyps same : List Term) → hyps ≡ same → IsStepDiagram d id (some_rules_out hyps action) → IsStepDiagram d id (some_rules_out same action)
ruled_out_by d id action hyps same e is = subst (λ (hs : List Term). IsStepDiagram d id (some_rules_out hs action)) e is
