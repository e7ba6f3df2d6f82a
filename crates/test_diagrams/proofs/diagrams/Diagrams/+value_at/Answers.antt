use Rattle.std.proofs.Common.{sym, ◌∙◌}
use Rattle.test_diagrams.proofs.Values.{value_of-constant}
use Rattle.test_diagrams.proofs.Levels.{value_of-low, value_of-high}
use Rattle.test_diagrams.proofs.diagrams.Diagrams.+value_at.Goals as goal

pub returns-in-Constant-clause-value : goal.returns-in-Constant-clause-value
returns-in-Constant-clause-value t c = sym (value_of-constant c.args.self.now c.args.a _ c.args.atom.now c.in-Constant.ensures.node)

pub returns-then-atom-test-clause-value : goal.returns-then-atom-test-clause-value
returns-then-atom-test-clause-value t c =
    c.value_at.ensures.value ∙ value_of-high c.args.self.now c.node.ensures.reduced c.args.a _ _ _ c.args.atom.now c.in-Branch.ensures.node c.if-atom-test.true

pub returns-else-atom-test-clause-value : goal.returns-else-atom-test-clause-value
returns-else-atom-test-clause-value t c =
    c.value_at-else-atom-test.ensures.value
    ∙ value_of-low c.args.self.now c.node.ensures.reduced c.args.a _ _ _ c.args.atom.now c.in-Branch.ensures.node c.if-atom-test.false
