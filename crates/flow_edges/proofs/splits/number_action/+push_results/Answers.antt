use Rattle.std.proofs.Common.{◌≡◌, Bool, true, false, ◌&&◌, ◌∷◌, ◌++◌, [], map, ap, ◌∙◌}
use Rattle.std.specs.List.{list_all}
use Rattle.std.proofs.lemmas.Result.{on_ok_weaker, IfErr-weaker}
use Rattle.flow_ways.specs.WayTrees.{sorted_form}
use Rattle.flow_ways.proofs.CourseLists.{pushed_then}
use Rattle.flow_edges.specs.CellTests.{cell_test_tree}
use Rattle.flow_edges.specs.Numbers.{result_with, result_fits}
use Rattle.flow_edges.proofs.splits.number_action.+push_results.Goals as goal

first_fits : (a b r : Bool) → a ≡ true → b ≡ r → (a && b) ≡ r
first_fits a b r e f = ap (λ x. x && b) e ∙ f

pub push_results_from-returns-clause-made : goal.push_results_from-returns-clause-made
push_results_from-returns-clause-made t c =
    let f = result_with c.args.split.now.sorts.now (cell_test_tree c.args.split.now.test.now) in
    let old = map sorted_form c.args.list.now.items in
    on_ok_weaker c.push_results.result
    (pushed_then old (map sorted_form c.push_result.new.list.items) (map sorted_form c.push_results.new.list.items) (map f (map sorted_form c.args.rest.now)) (f (sorted_form c.args.first.now))
    (c.in_ok-push_result.ensures ∙ ap (λ z. old ++ z ∷ []) c.in_ok-new.ensures.made))
    c.push_results.ensures.made

pub push_results_from-returns-clause-fits : goal.push_results_from-returns-clause-fits
push_results_from-returns-clause-fits t c =
    let fits = result_fits c.args.split.now.sorts.now (cell_test_tree c.args.split.now.test.now) in
    on_ok_weaker c.push_results.result
    (first_fits (fits (sorted_form c.args.first.now)) (list_all fits (map sorted_form c.args.rest.now)) true c.in_ok-new.ensures.fits)
    c.push_results.ensures.fits

pub push_results_from-returns-clause-refused : goal.push_results_from-returns-clause-refused
push_results_from-returns-clause-refused t c =
    let fits = result_fits c.args.split.now.sorts.now (cell_test_tree c.args.split.now.test.now) in
    IfErr-weaker c.push_results.result _ _
    (λ fault unfit large. first_fits (fits (sorted_form c.args.first.now)) (list_all fits (map sorted_form c.args.rest.now)) false c.in_ok-new.ensures.fits (unfit large))
    c.push_results.ensures.refused
