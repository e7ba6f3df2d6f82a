use Rattle.std.proofs.Common.{◌≡◌, ◌++◌, map, drop}
use Rattle.while_lang.specs.FlowViews.{flows_tree}
use Rattle.outline_rules.specs.Places.{last_place}
use Rattle.outline_rules.specs.Follows.{conditions_from}
use Rattle.outline_rules.specs.Working.Checks.{condition_of}
use Rattle.outline_rules.proofs.checks.+checks.Given as goal

-- the remaining statements end at the last place, and their checks are the missing ones
abbrev pub invariant-push_checks-loop-stmt : goal.invariant-push_checks-loop-stmt
invariant-push_checks-loop-stmt l = record {
  place : last_place (flows_tree (drop l.stmt-index l.list)) l.at ≡ last_place (flows_tree l.list) l.fn.place;
  checks : map condition_of l.checks.items ++ conditions_from (flows_tree (drop l.stmt-index l.list)) l.at ≡ map condition_of l.initial.checks.items ++ conditions_from (flows_tree l.list) l.fn.place;
}
