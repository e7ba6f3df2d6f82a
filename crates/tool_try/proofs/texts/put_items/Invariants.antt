use Rattle.std.proofs.Common.{◌≡◌, ◌++◌, drop}
use Rattle.tool_try.specs.TryTexts.{items_text}
use Rattle.tool_try.proofs.texts.put_items.Given as goal

-- the values so far, and the remaining values
abbrev pub invariant-loop-k : goal.invariant-loop-k
invariant-loop-k l = l.out.items ++ items_text l.scope l.k (drop l.k l.values) ≡ l.initial.out.items ++ items_text l.scope 0 l.values
