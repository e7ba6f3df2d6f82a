use Rattle.std.proofs.Common.{◌≡◌, ◌≤◌, length, drop}
use Rattle.kat_model.specs.Expressions.{cond_tree}
use Rattle.kat_model.specs.Stores.{IsStore}
use Rattle.while_lang.specs.ProgramViews.{list_tree}
use Rattle.while_lang.specs.Runs.{condition}
use Rattle.while_lang.specs.Working.Running.{run_end, loop_end}
use Rattle.while_lang.proofs.runs.+runs.Given as goal

-- the run of all statements is the run of the remaining ones from here
abbrev pub invariant-run_list-loop-stmt : goal.invariant-run_list-loop-stmt
invariant-run_list-loop-stmt l = record {
  fewer : l.turns ≤ l.initial.turns;
  whole : run_end l.width (list_tree l.list) l.initial.store l.initial.turns ≡ run_end l.width (list_tree (drop l.stmt-index l.list)) l.store l.turns;
  length : length l.store ≡ length l.initial.store;
  within : IsStore l.width l.store;
}

-- the loop from the start is the loop from here
abbrev pub invariant-run_stmt-turns : goal.invariant-run_stmt-turns
invariant-run_stmt-turns l = record {
  fewer : l.turns ≤ l.initial.turns;
  whole : loop_end (condition l.width (cond_tree l.b)) (run_end l.width (list_tree l.p-inside.list.items)) l.initial.store l.initial.turns
      ≡ loop_end (condition l.width (cond_tree l.b)) (run_end l.width (list_tree l.p-inside.list.items)) l.store l.turns;
  length : length l.store ≡ length l.initial.store;
  within : IsStore l.width l.store;
}

abbrev pub decreases-run_stmt-turns : goal.decreases-run_stmt-turns
decreases-run_stmt-turns l = l.turns
