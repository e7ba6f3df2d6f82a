use Rattle.std.proofs.Common.{ap, ◌∙◌}
use Rattle.std.proofs.lemmas.Result.{IfOk-weaker}
use Rattle.kat_model.specs.Expressions.{negation}
use Rattle.optimiser_steps.proofs.validity.opposite_of.Goals as goal

pub returns : goal.returns
returns c = IfOk-weaker c.new_not.result _ _ (λ b e. e ∙ ap negation c.in_ok-copy.ensures) c.new_not.ensures
