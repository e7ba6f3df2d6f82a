use Rattle.std.proofs.Common.{◌≡◌, Bool, true, false, ◌&&◌, List, [], ◌∷◌, ◌++◌, map, sym, ap, ◌∙◌}
use mathlib.Core.Path.{ap₂}
use Rattle.std.proofs.lemmas.Result.{on_ok_weaker, IfErr-weaker}
use Rattle.flow_model.specs.Polish.{expr_of, exprs_of, values_of}
use Rattle.flow_forms.specs.Forms.{form_tree}
use Rattle.flow_forms.specs.Expressions.{sort_of, form_of}
use Rattle.flow_forms.specs.Evaluation.{all_fit}
use Rattle.flow_ways.specs.Outcomes.{values_fit}
use Rattle.flow_ways.specs.WayTrees.{sorted_form}
use Rattle.flow_ways.proofs.CourseLists.{pushed_then}
use Rattle.flow_ways.proofs.way.+push_results.Goals as goal

-- a result that is pushed, and others
result_then : {X : Type 0} (old mid new rest : List X) (x y : X) → x ≡ y → mid ≡ old ++ x ∷ [] → new ≡ mid ++ rest → new ≡ old ++ y ∷ rest
result_then old mid new rest x y is e f = pushed_then old mid new rest y (e ∙ ap (λ z. old ++ z ∷ []) is) f

-- a value that fits before others
first_fits : (a b r : Bool) → a ≡ true → b ≡ r → (a && b) ≡ r
first_fits a b r e f = ap (λ x. x && b) e ∙ f

pub push_results_from-returns-clause-made : goal.push_results_from-returns-clause-made
push_results_from-returns-clause-made t c =
    let sorts = c.args.sorts.now in
    let env = map form_tree c.args.forms.now in
    let value = c.deref.ensures.value in
    on_ok_weaker c.push_results.result
    (result_then (map sorted_form c.args.list.now.items) (map sorted_form c.push_result.new.list.items) (map sorted_form c.push_results.new.list.items)
    (map (λ e. (sort_of sorts e, form_of sorts env e)) (values_of c.args.rest.now))
    (c.in_ok-sort.sort, form_tree c.in_ok-sort.form) (sort_of sorts (expr_of c.args.value.now.items), form_of sorts env (expr_of c.args.value.now.items))
    (ap₂ (λ s f. (s, f)) (c.in_ok-sort.ensures.sort ∙ ap (λ ns. sort_of sorts (expr_of ns)) value) (c.in_ok-sort.ensures.form ∙ ap (λ ns. form_of sorts env (expr_of ns)) value))
    c.in_ok-push_result.ensures)
    c.push_results.ensures.made

pub push_results_from-returns-clause-fits : goal.push_results_from-returns-clause-fits
push_results_from-returns-clause-fits t c =
    let sorts = c.args.sorts.now in
    let env = map form_tree c.args.forms.now in
    on_ok_weaker c.push_results.result
    (first_fits (all_fit sorts env (exprs_of c.args.value.now.items)) (values_fit sorts env c.args.rest.now) true
    (ap (λ ns. all_fit sorts env (exprs_of ns)) (sym c.deref.ensures.value) ∙ c.in_ok-sort.ensures.fits))
    c.push_results.ensures.fits

pub push_results_from-returns-clause-refused : goal.push_results_from-returns-clause-refused
push_results_from-returns-clause-refused t c =
    let sorts = c.args.sorts.now in
    let env = map form_tree c.args.forms.now in
    IfErr-weaker c.push_results.result _ _
    (λ fault unfit large. first_fits (all_fit sorts env (exprs_of c.args.value.now.items)) (values_fit sorts env c.args.rest.now) false
    (ap (λ ns. all_fit sorts env (exprs_of ns)) (sym c.deref.ensures.value) ∙ c.in_ok-sort.ensures.fits) (unfit large))
    c.push_results.ensures.refused
