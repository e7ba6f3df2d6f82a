use Rattle.std.proofs.Common.{◌≡◌, ◌++◌, drop, map, ap, ◌∙◌, arith}
use Rattle.flow_text.specs.Resolving.{operand}
use Rattle.flow_text.specs.Working.Wanting.{expected_stack}
use Rattle.flow_text.proofs.ExpectedStacks.{operand_before}
use Rattle.flow_text.proofs.resolve.push_operands.Goals as goal

pub sorts-preserved : goal.sorts-preserved
sorts-preserved c = (omega arith, operand_before c.args.sorts.now c.sorts.left _ _ _ _ c.sorts-test.true c.sorts.invariant.0 c.in_ok-push_operand.ensures c.sorts.invariant.1)

pub returns : goal.returns
returns c =
    let none : c.sorts.left ≡ 0 = omega arith in
    c.sorts.invariant.1 ∙ ap (λ n. map operand (drop n c.args.sorts.now) ++ expected_stack c.args.stack.now.items) none
