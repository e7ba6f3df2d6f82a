use Rattle.std.proofs.lemmas.Bool.{eq-eqb}
use Rattle.std.proofs.lemmas.Bool.Decides.{same_from_decides}
use Rattle.linear_forms.specs.Sameness.{is_same_form}
use Rattle.linear_forms.proofs.Sameness.{is_same_form-decides}
use Rattle.abstraction.proofs.tables.AssignedForm.assigns.Goals as goal

pub returns-then-self-var : goal.returns-then-self-var
returns-then-self-var c =
    let f = c.self.inside.form in
    let g = c.args.form.now in
    let e = same_from_decides c.same_form.result (is_same_form f g) c.same_form.ensures (is_same_form-decides f g) in
    rw (← c.self.view_is, eq-eqb _ _ c.if-self-var.true) e
