use Rattle.std.proofs.Common.{◌∷◌, ◌++◌, [], map, ap, ◌∙◌}
use Rattle.std.proofs.lemmas.Result.{on_ok_weaker, IfErr-weaker}
use Rattle.flow_edges.specs.GraphRows.{row_edges}
use Rattle.flow_ways.proofs.CourseLists.{pushed_then}
use Rattle.flow_abstraction.specs.Working.Placed.{table_edges}
use Rattle.flow_abstraction.proofs.PlacedRows.{later_refused, are_few}
use Rattle.flow_abstraction.proofs.placed.+push_rows.Goals as goal

pub push_rows_from-returns-clause-made : goal.push_rows_from-returns-clause-made
push_rows_from-returns-clause-made t c =
    let graph = c.args.graph.now in
    let edges = table_edges graph.sorts.now graph.blocks.now graph.places.now graph.live.now in
    on_ok_weaker c.push_rows.result
    (pushed_then (map row_edges c.args.list.now.items) (map row_edges c.push_row.new.list.items) (map row_edges c.push_rows.new.list.items) (map edges c.args.rest.now) (edges c.args.block)
    (c.in_ok-push_row.ensures ∙ ap (λ row. map row_edges c.args.list.now.items ++ row ∷ []) c.in_ok-row.ensures.found))
    c.push_rows.ensures.made

pub push_rows_from-returns-clause-few : goal.push_rows_from-returns-clause-few
push_rows_from-returns-clause-few t c =
    let graph = c.args.graph.now in
    on_ok_weaker c.push_rows.result
    (λ few. (are_few graph.sorts.now graph.blocks.now graph.places.now c.args.block c.in_ok-row.ensures.few c.in_ok-row.ensures.fits, few))
    c.push_rows.ensures.few

pub push_rows_from-returns-clause-refused : goal.push_rows_from-returns-clause-refused
push_rows_from-returns-clause-refused t c =
    let graph = c.args.graph.now in
    IfErr-weaker c.push_rows.result _ _
    (λ e. later_refused graph.sorts.now graph.blocks.now graph.places.now c.args.block c.args.rest.now e)
    c.push_rows.ensures.refused
