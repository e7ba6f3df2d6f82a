use Rattle.std.proofs.Common.{◌≡◌, false, IfErr, sym, ◌∙◌, subst}
use Rattle.std.proofs.lemmas.Result.{err_from_is_err_and}
use Rattle.flow_forms.specs.Forms.{form_tree}
use Rattle.flow_forms.specs.declared.fault.FormFault.TheVariants.{TooLarge}
use Rattle.flow_problem.specs.Splits.{number_fits}
use Rattle.flow_edges.specs.CellTests.{cell_test_tree}
use Rattle.flow_edges.proofs.Numbered.{own_not_large}
use Rattle.flow_edges.proofs.splits.number_action.set_with.Goals as goal

-- an own form is never too large
pub returns-in_err-own-2-clause-refused : goal.returns-in_err-own-2-clause-refused
returns-in_err-own-2-clause-refused c =
    let sorts = c.args.split.now.sorts.now in
    let x = cell_test_tree c.args.split.now.test.now in
    let fault = err_from_is_err_and c.from_residual-in_err-own-2.result c.from_residual-in_err-own-2.ensures.1 in
    subst (λ r. IfErr r (λ e. e ≡ TooLarge → number_fits sorts x c.args.sort (form_tree c.args.form.now) ≡ false)) (sym fault.1)
    (λ is. own_not_large sorts x c.args.sort c.args.number (form_tree c.in_ok-own.own) (number_fits sorts x c.args.sort (form_tree c.args.form.now)) c.in_ok-own.ensures
    (c.in_err-own-2.ensures.refused (sym fault.2 ∙ is)))
