use Rattle.std.proofs.Common.{◌≡◌, ◌++◌}
use Rattle.tool_explain.specs.Used.{marked}
use Rattle.tool_explain.proofs.used.marked_rules.Given as goal

-- the rules collected so far, and the marked ones of the rest
abbrev pub invariant-loop-mark : goal.invariant-loop-mark
invariant-loop-mark l = l.kept.items ++ marked l.mark-iterator.a.rest.now l.mark-iterator.b.rest.now ≡ marked l.marks l.rules
