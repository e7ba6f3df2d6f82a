use Rattle.std.proofs.Common.{◌≡◌, map, take}
use Rattle.while_lang.specs.ProgramViews.{stmt_tree}
use Rattle.while_lang.proofs.prog.+equals.Given as goal

-- the statements so far are equal
abbrev pub invariant-Prog::same-loop-i : goal.invariant-Prog::same-loop-i
invariant-Prog::same-loop-i l = map stmt_tree (take l.i l.self-inside.list.items) ≡ map stmt_tree (take l.i l.other-inside.list.items)
