use Rattle.outline_rules.proofs.Against.{reasons_against}
use Rattle.outline_rules.proofs.laws.reasons_are_against.Goals as goal

pub returns : goal.returns
returns c = reasons_against
