use Rattle.std.proofs.Common.{◌≡◌, ◌++◌, drop}
use Rattle.tool_decide.specs.LogTexts.{log_text}
use Rattle.tool_decide.proofs.log_text.put_log.Given as goal

-- the steps so far, and the remaining ones
abbrev pub invariant-loop-line : goal.invariant-loop-line
invariant-loop-line l = l.out.items ++ log_text (drop l.line-index l.log) ≡ l.initial.out.items ++ log_text l.log
