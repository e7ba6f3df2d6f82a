use Rattle.std.proofs.Common.{◌≡◌, ◌<◌, ℕ, Some}
use Rattle.tool_explain.proofs.SideNames.{tree_at}
use Rattle.tool_explain.proofs.sides.prog_name.Given as goal

-- no program so far is this one
abbrev pub invariant-loop-named : goal.invariant-loop-named
invariant-loop-named l = (i : ℕ) → i < l.named-index → tree_at l.named-items i ≡ Some l.prog → ⊥
