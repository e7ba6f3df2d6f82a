use Rattle.std.proofs.Common.{◌≡◌, ◌++◌, map, drop, true}
use Rattle.flow_ways.specs.WayTrees.{sorted_form}
use Rattle.flow_print.specs.NameTables.{names_of}
use Rattle.flow_print.specs.ActionTexts.{results_text}
use Rattle.flow_print.proofs.actions.put_results.Given as goal

-- the text written so far, and the remaining results
abbrev pub invariant-loop-entry : goal.invariant-loop-entry
invariant-loop-entry l =
    l.out.items ++ results_text (names_of l.names.variables.now l.names.sorts.now l.names.functions.now) l.first (map sorted_form (drop l.entry-index l.results))
    ≡ l.initial.out.items ++ results_text (names_of l.names.variables.now l.names.sorts.now l.names.functions.now) true (map sorted_form l.results)
