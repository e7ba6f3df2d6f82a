use Rattle.std.proofs.Common.{◌∙◌, true}
use Rattle.kat_model.specs.Trees.{test_tree}
use Rattle.kat_model.specs.Steps.{Atom, truth}
use Rattle.outline_rules.specs.declared.moments.Moment.TheVariants.{Before}
use Rattle.outline_rules.proofs.StepSets.{IsStepId-kept, IsStepDiagram-kept, KeepsSteps-trans}
use Rattle.outline_rules.specs.NoteLists.{note_holds}
use Rattle.goal_forms.specs.HypothesisForms.{allows}
use Rattle.outline_rules.proofs.NodeSets.{sets_kept}
use Rattle.outline_rules.proofs.Entailments.{entails_implied, implied_tests, starts_implied, given_same, then_same}
use Rattle.outline_rules.proofs.checking.is_start_met.Goals as goal

pub implies-requires-clause-to : goal.implies-requires-clause-to
implies-requires-clause-to c = (c.note_set-first.ensures Before (sets_kept c.args.diagrams.now c.of_test.new.self Before c.in_ok-pre.ensures.kept _ _ c.requires.before.nodes)).in_range

pub implies-requires-clause-allowed : goal.implies-requires-clause-allowed
implies-requires-clause-allowed c = IsStepId-kept _ _ c.in_ok-pre.ensures.kept _ c.requires.before.allowed.in_range

pub returns-clause-kept : goal.returns-clause-kept
returns-clause-kept c = KeepsSteps-trans _ _ _ c.in_ok-pre.ensures.kept c.implies.ensures.kept

pub returns-clause-met : goal.returns-clause-met
returns-clause-met c =
    let q = c.args.problem.now in
    let d = c.of_test.new.self in
    let kept = c.in_ok-pre.ensures.kept in
    let first = c.note_set-first.ensures Before (sets_kept c.args.diagrams.now d Before kept _ _ c.requires.before.nodes) in
    let allowed = IsStepDiagram-kept c.args.diagrams.now d kept _ _ c.requires.before.allowed in
    given_same c.implies.result c.implies.ensures.implies
    (then_same
    (entails_implied d c.args.before.now.allowed c.in_ok-pre.pre c.constant-always.result c.note_set-first.result
    (λ (x y : Atom). allows q.hyps x) (λ (x y : Atom). truth (test_tree c.args.pre.now) x) (λ (x y : Atom). true) (λ (x y : Atom). note_holds c.args.notes.now 0 x) allowed c.in_ok-pre.ensures.function c.constant-always.ensures.function first)
    (then_same (implied_tests d.tests q.tests _ _ _ _ (kept.tests ∙ c.requires.tests)) (starts_implied q (note_holds c.args.notes.now) (test_tree c.args.pre.now))))
