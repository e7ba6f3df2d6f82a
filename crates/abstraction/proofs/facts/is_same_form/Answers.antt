use Rattle.std.proofs.lemmas.Bool.Decides.{same_from_decides}
use Rattle.linear_forms.specs.Sameness.{is_same_form}
use Rattle.linear_forms.proofs.Sameness.{is_same_form-decides}
use Rattle.abstraction.proofs.facts.is_same_form.Goals as goal

pub returns : goal.returns
returns c =
    same_from_decides c.same_form.result (is_same_form c.args.left.now c.args.right.now) c.same_form.ensures
    (is_same_form-decides c.args.left.now c.args.right.now)
