use Rattle.flow_laws.proofs.NamedLines.{names_lines}
use Rattle.flow_laws.proofs.laws.names_are_lines.Goals as goal

pub returns : goal.returns
returns c = names_lines
