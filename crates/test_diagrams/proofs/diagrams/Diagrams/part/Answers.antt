use Rattle.test_diagrams.proofs.Parts.{part_other, part_constant, part_low, part_high}
use Rattle.test_diagrams.proofs.diagrams.Diagrams.part.Goals as goal

pub returns-then-value-clause-part : goal.returns-then-value-clause-part
returns-then-value-clause-part c = part_high _ c.node.ensures.reduced _ _ _ _ _ _ c.in-Branch.ensures.node c.if-own-test.true c.if-value.true

pub returns-else-value-clause-part : goal.returns-else-value-clause-part
returns-else-value-clause-part c = part_low _ c.node.ensures.reduced _ _ _ _ _ _ c.in-Branch.ensures.node c.if-own-test.true c.if-value.false

pub returns-in_default-clause-part : goal.returns-in_default-clause-part
returns-in_default-clause-part c = part_other _ c.node.ensures.reduced _ _ _ _ _ _ c.in-Branch.ensures.node c.if-own-test.false c.requires.above

pub returns-in_default-2-clause-part : goal.returns-in_default-2-clause-part
returns-in_default-2-clause-part c = part_constant _ c.node.ensures.reduced _ _ _ _ c.in_default.ensures.node c.requires.test
