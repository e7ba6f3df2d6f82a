use Rattle.std.proofs.Common.{◌≡◌, ◌∷◌, ◌++◌, List, map, sym, ◌∙◌, ap}
use Rattle.flow_forms.specs.Comparisons.{comparison_tree}
use Rattle.flow_problem.specs.Edges.{Edge}
use Rattle.flow_problem.specs.Splits.{cell_tests, split_edges}
use Rattle.flow_edges.specs.declared.splits.split_fault.SplitFault.TheVariants.{TooManyPaths}
use Rattle.flow_edges.specs.GraphRows.{row_edges}
use Rattle.flow_abstraction.specs.Working.Splits.{HasLongRow}
use Rattle.flow_abstraction.proofs.Refusals.{refused_as}
use Rattle.flow_abstraction.proofs.SplitRows.{short_then, long_then, row_split}
use Rattle.flow_abstraction.proofs.split.split_rows.Goals as goal

pub returns-in_err-split_edges-clause-many : goal.returns-in_err-split_edges-clause-many
returns-in_err-split_edges-clause-many c =
    let f : List Edge → List Edge = split_edges c.args.sorts.now (cell_tests c.args.sorts.now (map comparison_tree c.args.tests.now)) in
    let old = map row_edges c.loop-row.list.items in
    let rest = map f (map row_edges c.next.new.self.rest.items) in
    let all = map f (map row_edges c.args.rows.items) in
    let whole : old ++ f (row_edges c.in-Some.row) ∷ rest ≡ all =
    ap (λ rows. old ++ map f (map row_edges rows)) (sym c.in-Some.ensures.steps.0) ∙ c.loop-row.invariant.made in
    refused_as (λ e. e ≡ TooManyPaths → HasLongRow all) c.in_err-split_edges.field-0.0 c.from_residual.result c.from_residual.ensures.1
    (λ is. long_then old rest all (f (row_edges c.in-Some.row)) whole (c.in_err-split_edges.ensures.many is))

pub loop-row-preserved : goal.loop-row-preserved
loop-row-preserved c =
    let f : List Edge → List Edge = split_edges c.args.sorts.now (cell_tests c.args.sorts.now (map comparison_tree c.args.tests.now)) in
    let old = map row_edges c.loop-row.list.items in
    let rest = map f (map row_edges c.next.new.self.rest.items) in
    let all = map f (map row_edges c.args.rows.items) in
    let new = map row_edges c.push_row.new.list.items in
    let whole : old ++ f (row_edges c.in-Some.row) ∷ rest ≡ all =
    ap (λ rows. old ++ map f (map row_edges rows)) (sym c.in-Some.ensures.steps.0) ∙ c.loop-row.invariant.made in
    record {
      made = row_split old new rest all (f (row_edges c.in-Some.row)) (row_edges c.in_ok-split_edges.field-0) whole c.in_ok-split_edges.ensures.found c.in_ok-push_row.ensures;
      few = short_then old new (row_edges c.in_ok-split_edges.field-0) c.in_ok-push_row.ensures c.loop-row.invariant.few c.in_ok-split_edges.ensures.few;
    }
