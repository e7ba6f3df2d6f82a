use Rattle.std.proofs.lemmas.Result.{IfOk-weaker}
use Rattle.tool_decide.proofs.decide.text.Goals as goal

pub returns : goal.returns
returns c = IfOk-weaker c.write.result _ _ (λ v e. record { evidence = c.know_numbers.ensures; text = e }) c.write.ensures
