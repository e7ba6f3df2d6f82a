use Rattle.std.proofs.Common.{◌≡◌, map, take}
use Rattle.while_lang.specs.ProgramViews.{stmt_tree}
use Rattle.while_lang.proofs.prog.+copies.Given as goal

-- the statements so far are copied
abbrev pub invariant-Prog::copy-loop-stmt : goal.invariant-Prog::copy-loop-stmt
invariant-Prog::copy-loop-stmt l = map stmt_tree l.list.items ≡ map stmt_tree (take l.stmt-index l.stmt-items)
