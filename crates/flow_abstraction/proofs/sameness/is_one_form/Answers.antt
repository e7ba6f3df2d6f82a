-- A test of equality is the test of the order.
use Rattle.flow_forms.proofs.SameComparisons.{form_answers}
use Rattle.flow_abstraction.proofs.sameness.is_one_form.Goals as goal

pub returns : goal.returns
returns c = form_answers _ _ _ c.same_form.ensures
