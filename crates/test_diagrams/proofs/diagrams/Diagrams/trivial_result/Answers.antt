use Rattle.std.proofs.Common.{subst, sym, ◌∙◌, eqb-true}
use Rattle.std.proofs.lemmas.Bool.{eqb-false}
use Rattle.test_diagrams.specs.Reduced.{IsReduced}
use Rattle.test_diagrams.proofs.Settled.{and_found, or_found, not_never, not_always, and_open, or_open, not_open}
use Rattle.test_diagrams.proofs.diagrams.Diagrams.trivial_result.Goals as goal

pub returns-in-And-clause-result : goal.returns-in-And-clause-result
returns-in-And-clause-result c = and_found _ (subst IsReduced c.self.view_is c.self.invariant.reduced) _ _ _ c.in-And.is c.requires.operands _ c.absorbing_operand.ensures.one

pub returns-in-And-clause-open : goal.returns-in-And-clause-open
returns-in-And-clause-open c = and_open _ (subst IsReduced c.self.view_is c.self.invariant.reduced) _ _ _ c.in-And.is c.requires.operands _ c.absorbing_operand.ensures.none

pub returns-in-Or-clause-result : goal.returns-in-Or-clause-result
returns-in-Or-clause-result c = or_found _ (subst IsReduced c.self.view_is c.self.invariant.reduced) _ _ _ c.in-Or.is c.requires.operands _ c.absorbing_operand-in-Or.ensures.one

pub returns-in-Or-clause-open : goal.returns-in-Or-clause-open
returns-in-Or-clause-open c = or_open _ (subst IsReduced c.self.view_is c.self.invariant.reduced) _ _ _ c.in-Or.is c.requires.operands _ c.absorbing_operand-in-Or.ensures.none

pub returns-then-eq-clause-result : goal.returns-then-eq-clause-result
returns-then-eq-clause-result c =
    not_never _ (subst IsReduced c.self.view_is c.self.invariant.reduced) _ _ c.in-Not.is c.requires.operands (eqb-true _ _ (sym c.eq.ensures ∙ c.if-eq.true))

pub returns-then-eq-2-clause-result : goal.returns-then-eq-2-clause-result
returns-then-eq-2-clause-result c =
    not_always _ (subst IsReduced c.self.view_is c.self.invariant.reduced) _ _ c.in-Not.is c.requires.operands (eqb-true _ _ (sym c.eq-in-Not.ensures ∙ c.if-eq-2.true))

pub returns-else-eq-2-clause-open : goal.returns-else-eq-2-clause-open
returns-else-eq-2-clause-open c =
    not_open _ (subst IsReduced c.self.view_is c.self.invariant.reduced) _ _ c.in-Not.is c.requires.operands
    (eqb-false _ _ (sym c.eq.ensures ∙ c.if-eq.false)) (eqb-false _ _ (sym c.eq-in-Not.ensures ∙ c.if-eq-2.false))
