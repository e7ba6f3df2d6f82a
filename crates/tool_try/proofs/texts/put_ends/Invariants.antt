use Rattle.std.proofs.Common.{◌≡◌, ◌++◌, drop}
use Rattle.tool_try.specs.TryTexts.{ends_text}
use Rattle.tool_try.proofs.texts.put_ends.Given as goal

-- the ends so far, and the remaining ends
abbrev pub invariant-loop-end : goal.invariant-loop-end
invariant-loop-end l = l.out.items ++ ends_text l.scope (drop l.end-index l.ends) ≡ l.initial.out.items ++ ends_text l.scope l.ends
