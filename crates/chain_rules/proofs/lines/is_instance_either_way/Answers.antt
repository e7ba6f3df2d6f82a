use Rattle.std.proofs.lemmas.Result.{IfOk-weaker}
use Rattle.chain_rules.proofs.InstanceChecks.{either_way}
use Rattle.chain_rules.proofs.lines.is_instance_either_way.Goals as goal

pub returns : goal.returns
returns c =
    IfOk-weaker c.is_instance-2.result _ _
    (λ back is. either_way c.in_ok-is_instance.field-0 back c.if-branch.false c.in_ok-is_instance.ensures is)
    c.is_instance-2.ensures
