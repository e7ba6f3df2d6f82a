use Rattle.std.proofs.Common.{◌∙◌}
use Rattle.kat_model.specs.Steps.{Atom, truth}
use Rattle.outline_rules.specs.declared.moments.Moment.TheVariants.{Before}
use Rattle.outline_rules.proofs.StepSets.{IsStepId-kept, IsStepDiagram-kept, KeepsSteps-trans}
use Rattle.outline_rules.specs.NoteLists.{note_holds}
use Rattle.goal_forms.specs.HypothesisForms.{allows}
use Rattle.outline_rules.specs.Working.Checks.{guard_tree}
use Rattle.outline_rules.proofs.NodeSets.{sets_kept}
use Rattle.outline_rules.proofs.Entailments.{entails_implied, implied_tests, implies_implied, leads_met, given_same, then_same}
use Rattle.outline_rules.proofs.checking.is_met.Goals as goal

pub implies-requires-clause-from : goal.implies-requires-clause-from
implies-requires-clause-from c = (c.note_set-from.ensures Before (sets_kept c.args.diagrams.now c.guard_set.new.diagrams Before c.in_ok-guard-in-Implies.ensures.kept _ _ c.requires.before.nodes)).in_range

pub implies-requires-clause-to : goal.implies-requires-clause-to
implies-requires-clause-to c = (c.note_set-to.ensures Before (sets_kept c.args.diagrams.now c.guard_set.new.diagrams Before c.in_ok-guard-in-Implies.ensures.kept _ _ c.requires.before.nodes)).in_range

pub ends_of-requires-clause-from : goal.ends_of-requires-clause-from
ends_of-requires-clause-from c = (c.note_set-from-in-Leads.ensures Before c.requires.before.nodes).in_range

pub implies-requires-in-Leads-clause-to : goal.implies-requires-in-Leads-clause-to
implies-requires-in-Leads-clause-to c = (c.note_set-to-in-Leads.ensures Before (sets_kept c.args.diagrams.now c.ends_of.new.diagrams Before c.in_ok-ends-in-Leads.ensures.kept _ _ c.requires.before.nodes)).in_range

pub implies-requires-in-Leads-clause-from : goal.implies-requires-in-Leads-clause-from
implies-requires-in-Leads-clause-from c =
    let q = c.args.problem.now in
    (c.in_ok-ends-in-Leads.ensures.ends (allows q.hyps) (note_holds c.args.notes.now c.in-Leads.from) c.requires.before.allowed (c.note_set-from-in-Leads.ensures Before c.requires.before.nodes)).in_range

pub implies-requires-clause-allowed : goal.implies-requires-clause-allowed
implies-requires-clause-allowed c = IsStepId-kept _ _ c.in_ok-guard-in-Implies.ensures.kept _ c.requires.before.allowed.in_range

pub implies-requires-in-Leads-clause-allowed : goal.implies-requires-in-Leads-clause-allowed
implies-requires-in-Leads-clause-allowed c = IsStepId-kept _ _ c.in_ok-ends-in-Leads.ensures.kept _ c.requires.before.allowed.in_range

pub implies-requires-in-Leads-clause-guard : goal.implies-requires-in-Leads-clause-guard
implies-requires-in-Leads-clause-guard c = IsStepId-kept _ _ c.in_ok-ends-in-Leads.ensures.kept _ c.constant-always.ensures.function.in_range

pub returns-in_ok-guard-in-Implies-clause-kept : goal.returns-in_ok-guard-in-Implies-clause-kept
returns-in_ok-guard-in-Implies-clause-kept c = KeepsSteps-trans _ _ _ c.in_ok-guard-in-Implies.ensures.kept c.implies.ensures.kept

pub returns-in_ok-ends-in-Leads-clause-kept : goal.returns-in_ok-ends-in-Leads-clause-kept
returns-in_ok-ends-in-Leads-clause-kept c = KeepsSteps-trans _ _ _ c.in_ok-ends-in-Leads.ensures.kept c.implies-in-Leads.ensures.kept

pub returns-in_ok-guard-in-Implies-clause-met : goal.returns-in_ok-guard-in-Implies-clause-met
returns-in_ok-guard-in-Implies-clause-met c =
    let q = c.args.problem.now in
    let d = c.guard_set.new.diagrams in
    let kept = c.in_ok-guard-in-Implies.ensures.kept in
    let sets = sets_kept c.args.diagrams.now d Before kept _ _ c.requires.before.nodes in
    let allowed = IsStepDiagram-kept c.args.diagrams.now d kept _ _ c.requires.before.allowed in
    let note = note_holds c.args.notes.now in
    rw c.in-Implies.is
    (given_same c.implies.result c.implies.ensures.implies
    (then_same
    (entails_implied d c.args.before.now.allowed c.note_set-from.result c.in_ok-guard-in-Implies.guard c.note_set-to.result
    (λ (x y : Atom). allows q.hyps x) (λ (x y : Atom). note c.in-Implies.from x) (λ (x y : Atom). truth (guard_tree c.in-Implies.guard) x) (λ (x y : Atom). note c.in-Implies.to x)
    allowed (c.note_set-from.ensures Before sets) c.in_ok-guard-in-Implies.ensures.function (c.note_set-to.ensures Before sets))
    (then_same (implied_tests d.tests q.tests _ _ _ _ (kept.tests ∙ c.requires.tests)) (implies_implied q note c.in-Implies.from c.in-Implies.to (guard_tree c.in-Implies.guard)))))

pub returns-in_ok-ends-in-Leads-clause-met : goal.returns-in_ok-ends-in-Leads-clause-met
returns-in_ok-ends-in-Leads-clause-met c =
    let q = c.args.problem.now in
    let old = c.args.diagrams.now in
    let d = c.ends_of.new.diagrams in
    let kept = c.in_ok-ends-in-Leads.ensures.kept in
    let note = note_holds c.args.notes.now in
    let from = c.note_set-from-in-Leads.ensures Before c.requires.before.nodes in
    let ends = c.in_ok-ends-in-Leads.ensures.ends (allows q.hyps) (note c.in-Leads.from) c.requires.before.allowed from in
    let to = c.note_set-to-in-Leads.ensures Before (sets_kept old d Before kept _ _ c.requires.before.nodes) in
    rw c.in-Leads.is
    (given_same c.implies-in-Leads.result c.implies-in-Leads.ensures.implies
    (leads_met q note c.requires.simple c.in-Leads.from c.in-Leads.action c.in-Leads.to d c.args.before.now.allowed c.in_ok-ends-in-Leads.ends c.constant-always.result c.note_set-to-in-Leads.result
    (kept.tests ∙ c.requires.tests) (IsStepDiagram-kept old d kept _ _ c.requires.before.allowed) ends (IsStepDiagram-kept old d kept _ _ c.constant-always.ensures.function) to))
