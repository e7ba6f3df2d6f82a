use Rattle.std.proofs.Common.{◌≡◌, ◌≤◌, ◌++◌, length, drop, map}
use Rattle.flow_text.specs.Resolving.{operand}
use Rattle.flow_text.specs.Working.Wanting.{expected_stack}
use Rattle.flow_text.proofs.resolve.push_operands.Given as goal

-- the operands from `left` on are pushed
abbrev pub invariant-sorts : goal.invariant-sorts
invariant-sorts l = (l.left ≤ length l.sorts) × (expected_stack l.stack.items ≡ map operand (drop l.left l.sorts) ++ expected_stack l.initial.stack.items)

abbrev pub decreases-sorts : goal.decreases-sorts
decreases-sorts l = l.left
