use Rattle.std.proofs.Common.{refl}
use Rattle.flow_ways.specs.WayTrees.{sorted_form}
use Rattle.flow_print.specs.NameTables.{names_of}
use Rattle.flow_print.specs.ActionTexts.{results_text}
use Rattle.flow_print.proofs.WrittenLists.{all_written, result_written}
use Rattle.flow_print.proofs.actions.put_results.Goals as goal

pub loop-entry-preserved : goal.loop-entry-preserved
loop-entry-preserved c =
    let names = names_of c.args.names.now.variables.now c.args.names.now.sorts.now c.args.names.now.functions.now in
    result_written names c.args.results.now c.loop-entry.entry-index c.entry-item.result c.loop-entry.first c.sort_width.result c.loop-entry.out.items c.put_comma.new.out.items c.put_form.new.out.items _
    c.loop-entry-test.true c.entry-item.is c.sort_width.ensures c.in_ok-put_comma.ensures c.in_ok-put_form.ensures c.loop-entry.invariant

pub returns : goal.returns
returns c =
    let names = names_of c.args.names.now.variables.now c.args.names.now.sorts.now c.args.names.now.functions.now in
    all_written sorted_form (results_text names c.loop-entry.first) refl c.args.results.now c.loop-entry.entry-index c.loop-entry.out.items _ c.loop-entry-test.false c.loop-entry.invariant
