-- What comes of the first comparison, then of the others.
use Rattle.std.proofs.Common.{map}
use Rattle.std.proofs.lemmas.Result.{on_ok_weaker}
use Rattle.flow_forms.specs.Forms.{form_tree}
use Rattle.flow_forms.specs.Comparisons.{comparison_tree}
use Rattle.flow_ways.specs.ActionTrees.{set_tree}
use Rattle.flow_problem.specs.FlowRounds.{comparisons_if_any}
use Rattle.flow_abstraction.specs.LiteralsWith.{literal_with, comparisons_with}
use Rattle.flow_abstraction.proofs.GrownTables.{table_then}
use Rattle.flow_abstraction.proofs.rounds.+add_all_before.Goals as goal

pub add_all_before_from-returns : goal.add_all_before_from-returns
add_all_before_from-returns t c =
    let sets = map set_tree c.args.sets.now in
    let forms = map form_tree c.args.forms.now in
    on_ok_weaker c.add_all_before.result
    (table_then (map comparison_tree c.args.table.now.items) (map comparison_tree c.add_before.new.table.items) (map comparison_tree c.add_all_before.new.table.items)
    (comparisons_if_any (literal_with c.args.sorts.now sets forms (comparison_tree c.args.first.now))) (comparisons_with c.args.sorts.now sets forms (map comparison_tree c.args.rest.now))
    c.in_ok-add_before.ensures)
    c.add_all_before.ensures
