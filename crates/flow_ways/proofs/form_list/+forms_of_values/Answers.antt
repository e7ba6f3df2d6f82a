use Rattle.std.proofs.Common.{◌≡◌, Bool, true, ◌&&◌, ◌∷◌, map, sym, ap, ◌∙◌}
use mathlib.Core.Path.{ap₂}
use Rattle.flow_model.specs.Polish.{expr_of, exprs_of}
use Rattle.flow_forms.specs.Forms.{form_tree}
use Rattle.flow_forms.specs.Expressions.{form_of}
use Rattle.flow_forms.specs.Evaluation.{all_fit}
use Rattle.flow_ways.specs.Outcomes.{values_fit}
use Rattle.flow_ways.proofs.form_list.+forms_of_values.Goals as goal

-- a value that fits before others that do
both_fit : (a b : Bool) → a ≡ true → b ≡ true → (a && b) ≡ true
both_fit a b e f = ap (λ x. x && b) e ∙ f

pub forms_of_values_from-returns-clause-made : goal.forms_of_values_from-returns-clause-made
forms_of_values_from-returns-clause-made t c =
    let sorts = c.args.sorts.now in
    let env = map form_tree c.args.forms.now in
    c.in_ok-listed.ensures
    ∙ ap₂ (λ f fs. f ∷ fs) (c.in_ok-form.ensures.form ∙ ap (λ ns. form_of sorts env (expr_of ns)) c.deref.ensures.value) c.in_ok-others.ensures.made

pub forms_of_values_from-returns-clause-fits : goal.forms_of_values_from-returns-clause-fits
forms_of_values_from-returns-clause-fits t c =
    let sorts = c.args.sorts.now in
    let env = map form_tree c.args.forms.now in
    both_fit (all_fit sorts env (exprs_of c.args.value.now.items)) (values_fit sorts env c.args.rest.now)
    (ap (λ ns. all_fit sorts env (exprs_of ns)) (sym c.deref.ensures.value) ∙ c.in_ok-form.ensures.fits) c.in_ok-others.ensures.fits
