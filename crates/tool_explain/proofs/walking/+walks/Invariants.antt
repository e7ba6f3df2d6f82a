use Rattle.std.proofs.Common.{◌≡◌, ◌≤◌, ◌-◌, length, drop}
use Rattle.while_lang.specs.FlowViews.{flows_tree}
use Rattle.kat_model.specs.Trees.{test_tree}
use Rattle.tool_explain.specs.Working.Walks.{list_end, loop_end}
use Rattle.tool_explain.proofs.walking.+walks.Given as goal

-- the walk of all statements ends as that of the remaining ones from here
abbrev pub invariant-walk_list-loop-k : goal.invariant-walk_list-loop-k
invariant-walk_list-loop-k l = record {
  whole : list_end l.initial.cursor.string.now l.initial.path.items 0 (flows_tree l.list) l.initial.cursor.at
      ≡ list_end l.initial.cursor.string.now l.initial.path.items l.k (flows_tree (drop l.k l.list)) l.cursor.at;
  back : l.path.items ≡ l.initial.path.items;
  string : l.cursor.string.now ≡ l.initial.cursor.string.now;
  onward : l.initial.cursor.at ≤ l.cursor.at;
}

-- the loop ends as the loop from here
abbrev pub invariant-walk_stmt-turns : goal.invariant-walk_stmt-turns
invariant-walk_stmt-turns l = record {
  whole : loop_end l.initial.cursor.string.now l.initial.path.items (test_tree l.b) l.f l.initial.cursor.at
      ≡ loop_end l.initial.cursor.string.now l.initial.path.items (test_tree l.b) l.f l.cursor.at;
  back : l.path.items ≡ l.initial.path.items;
  string : l.cursor.string.now ≡ l.initial.cursor.string.now;
  onward : l.initial.cursor.at ≤ l.cursor.at;
}

-- each turn takes an action
abbrev pub decreases-walk_stmt-turns : goal.decreases-walk_stmt-turns
decreases-walk_stmt-turns l = length l.cursor.string.now.rest - l.cursor.at
