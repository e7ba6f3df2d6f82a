use Rattle.std.proofs.Common.{◌≡◌, ◌<◌, ◌-◌, ℕ, suc, length, string_bytes}
use Rattle.text_parser.specs.ScopeParts.{IsDeclared}
use Rattle.tool_programs.specs.OneLoop.{pc_name}
use Rattle.tool_programs.specs.Working.Counters.{all_lengths}
use Rattle.tool_programs.proofs.counter.counter_name.Given as goal

-- names with fewer `_` are declared
abbrev pub invariant-loop-name : goal.invariant-loop-name
invariant-loop-name l = (n : ℕ) × (string_bytes l.name ≡ pc_name n) × ((k : ℕ) → k < n → IsDeclared l.scope (pc_name k))

abbrev pub decreases-loop-name : goal.decreases-loop-name
decreases-loop-name l = suc (all_lengths l.scope) - length (string_bytes l.name)
