use Rattle.std.proofs.Common.{◌≡◌, ◌++◌, map, take}
use Rattle.while_lang.specs.ProgramViews.{stmt_tree}
use Rattle.optimiser_steps.proofs.copies.push_copies.Given as goal

-- the list has its initial statements, followed by the statements copied so far
abbrev pub invariant-loop-stmt : goal.invariant-loop-stmt
invariant-loop-stmt l = map stmt_tree l.list.items ≡ map stmt_tree l.initial.list.items ++ map stmt_tree (take l.stmt-index l.stmts)
