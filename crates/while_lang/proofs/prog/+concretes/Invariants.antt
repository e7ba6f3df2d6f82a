use Rattle.std.proofs.Common.{◌≡◌, drop}
use Rattle.while_lang.specs.Programs.{is_concrete}
use Rattle.while_lang.specs.ProgramViews.{list_tree}
use Rattle.while_lang.proofs.prog.+concretes.Given as goal

-- the remaining statements decide
abbrev pub invariant-Prog::concrete-loop-stmt : goal.invariant-Prog::concrete-loop-stmt
invariant-Prog::concrete-loop-stmt l = is_concrete (list_tree (drop l.stmt-index l.stmt-items)) ≡ is_concrete (list_tree l.stmt-items)
