use Rattle.outline_rules.proofs.Soundness.{follows_same}
use Rattle.outline_rules.proofs.laws.follows_is_same.Goals as goal

pub returns : goal.returns
returns c = follows_same
