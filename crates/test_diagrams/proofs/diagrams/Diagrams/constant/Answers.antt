use Rattle.std.proofs.Common.{subst}
use Rattle.test_diagrams.specs.Reduced.{IsReduced}
use Rattle.test_diagrams.proofs.Settled.{never_is, always_is}
use Rattle.test_diagrams.proofs.diagrams.Diagrams.constant.Goals as goal

pub returns-then-value-clause-function : goal.returns-then-value-clause-function
returns-then-value-clause-function c = always_is c.args.self.now (subst IsReduced c.self.view_is c.self.invariant.reduced) c.args.value c.if-value.true

pub returns-else-value-clause-function : goal.returns-else-value-clause-function
returns-else-value-clause-function c = never_is c.args.self.now (subst IsReduced c.self.view_is c.self.invariant.reduced) c.args.value c.if-value.false
