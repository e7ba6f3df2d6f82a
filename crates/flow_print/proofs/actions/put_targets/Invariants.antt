use Rattle.std.proofs.Common.{◌≡◌, ◌++◌, map, drop, true}
use Rattle.flow_ways.specs.ActionTrees.{set_tree}
use Rattle.flow_print.specs.NameTables.{names_of}
use Rattle.flow_print.specs.ActionTexts.{targets_text}
use Rattle.flow_print.proofs.actions.put_targets.Given as goal

-- the text written so far, and the remaining targets
abbrev pub invariant-loop-number : goal.invariant-loop-number
invariant-loop-number l =
    l.out.items ++ targets_text (names_of l.names.variables.now l.names.sorts.now l.names.functions.now) l.number l.first (map set_tree (drop l.number l.forms))
    ≡ l.initial.out.items ++ targets_text (names_of l.names.variables.now l.names.sorts.now l.names.functions.now) 0 true (map set_tree l.forms)
