use Rattle.std.proofs.Common.{◌≡◌, ◌++◌, drop}
use Rattle.while_lang.specs.ProgramViews.{list_tree}
use Rattle.store_trials.specs.Numbers.{prog_numbers}
use Rattle.store_trials.proofs.numbers.+numbers.Given as goal

-- the numbers so far, and those of the remaining statements
abbrev pub invariant-add_prog-loop-stmt : goal.invariant-add_prog-loop-stmt
invariant-add_prog-loop-stmt l =
    l.out.items ++ prog_numbers (list_tree (drop l.stmt-index l.stmt-items)) ≡ l.initial.out.items ++ prog_numbers (list_tree l.stmt-items)
