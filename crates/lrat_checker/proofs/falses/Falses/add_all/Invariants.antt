use Rattle.std.proofs.Common.{◌≡◌, ◌++◌, take}
use Rattle.lrat_checker.proofs.falses.Falses.add_all.Given as goal

abbrev pub invariant-loop-literal : goal.invariant-loop-literal
invariant-loop-literal l = l.self ≡ l.initial.self ++ take l.literal-index l.literals
