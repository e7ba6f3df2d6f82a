use Rattle.std.proofs.Common.{◌≡◌, Bool, true, false, map, subst}
use Rattle.std.specs.Prelude.{IfOk, IfErr}
use Rattle.std.proofs.lemmas.Result.{IfOk-weaker}
use Rattle.flow_forms.specs.Comparisons.{comparison_tree}
use Rattle.flow_places.specs.Rows.{row_tree}
use Rattle.flow_places.specs.declared.term_fault.TermFault.TheVariants.{TooLarge}
use Rattle.flow_edges.specs.EdgeViews.{flow_action}
use Rattle.flow_edges.specs.GraphRows.{row_edges}
use Rattle.flow_edges.proofs.GraphRows.{rows_same_fit, rows_graph}
use Rattle.flow_edges.proofs.graph.graph_term.Goals as goal

pub returns-clause-made : goal.returns-clause-made
returns-clause-made c =
    IfOk-weaker c.eliminated.result _ _
    (λ e m. rows_graph row_tree row_edges (map comparison_tree c.args.tests.now) (map flow_action c.args.actions.now) c.args.places.now c.in_ok-rows.rows.items c.args.edges.now _ c.in_ok-rows.ensures m)
    c.eliminated.ensures.made

pub returns-clause-fits : goal.returns-clause-fits
returns-clause-fits c =
    subst (λ (b : Bool). IfOk c.eliminated.result (λ _. b ≡ true))
    (rows_same_fit row_tree row_edges (map comparison_tree c.args.tests.now) (map flow_action c.args.actions.now) c.args.places.now c.in_ok-rows.rows.items c.args.edges.now c.in_ok-rows.ensures)
    c.eliminated.ensures.fits

pub returns-clause-refused : goal.returns-clause-refused
returns-clause-refused c =
    subst (λ (b : Bool). IfErr c.eliminated.result (λ f. f ≡ TooLarge → b ≡ false))
    (rows_same_fit row_tree row_edges (map comparison_tree c.args.tests.now) (map flow_action c.args.actions.now) c.args.places.now c.in_ok-rows.rows.items c.args.edges.now c.in_ok-rows.ensures)
    c.eliminated.ensures.refused
