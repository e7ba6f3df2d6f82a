use Rattle.string_tables.proofs.OneFinding.{one_finding}
use Rattle.string_tables.proofs.laws.has_one_finding.Goals as goal

pub returns : goal.returns
returns c = one_finding
