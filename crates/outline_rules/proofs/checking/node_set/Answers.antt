use Rattle.std.proofs.Common.{sym, subst, length}
use Rattle.kat_model.specs.Steps.{Atom}
use Rattle.outline_rules.specs.Interleaved.{atom_at_moment}
use Rattle.outline_rules.specs.StepFunctions.{step_value, IsStepId, choice_by}
use Rattle.outline_rules.specs.Working.Sets.{HasPartsInRange}
use Rattle.outline_rules.proofs.NodeSets.{branch_holds}
use Rattle.outline_rules.proofs.StepSets.{tail_same}
use Rattle.outline_rules.proofs.checking.node_set.Goals as goal

pub choice-requires-clause-in_range : goal.choice-requires-clause-in_range
choice-requires-clause-in_range c = (subst (HasPartsInRange c.args.diagrams.now.tests (length c.args.earlier.now)) c.in-Branch.is c.requires.node).0

pub choice-requires-clause-low : goal.choice-requires-clause-low
choice-requires-clause-low c =
    let parts = subst (HasPartsInRange c.args.diagrams.now.tests (length c.args.earlier.now)) c.in-Branch.is c.requires.node in
    subst (IsStepId c.args.diagrams.now) (sym c.index-earlier-low.is) (c.requires.earlier c.in-Branch.low c.index-earlier-low.result parts.1)

pub choice-requires-clause-high : goal.choice-requires-clause-high
choice-requires-clause-high c =
    let parts = subst (HasPartsInRange c.args.diagrams.now.tests (length c.args.earlier.now)) c.in-Branch.is c.requires.node in
    subst (IsStepId c.args.diagrams.now) (sym c.index-earlier-high.is) (c.requires.earlier c.in-Branch.high c.index-earlier-high.result parts.2)

pub returns-in-Branch-clause-function : goal.returns-in-Branch-clause-function
returns-in-Branch-clause-function c =
    let old = c.args.diagrams.now in
    let earlier = c.args.earlier.now in
    let low = c.index-earlier-low.result in
    let high = c.index-earlier-high.result in
    let parts = subst (HasPartsInRange old.tests (length earlier)) c.in-Branch.is c.requires.node in
    tail_same c.choice.result c.choice.new.self (choice_by c.args.moment c.in-Branch.test (step_value old low) (step_value old high)) _ c.choice.ensures.function
    (λ (x y : Atom) ex ey. branch_holds (atom_at_moment c.args.moment x y) earlier (λ e. step_value old e x y) c.args.node c.in-Branch.test c.in-Branch.low c.in-Branch.high low high
    c.in-Branch.is parts.1 parts.2 c.index-earlier-low.is c.index-earlier-high.is)
