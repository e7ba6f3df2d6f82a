use Rattle.string_tables.proofs.Parts.{relates_by_part}
use Rattle.string_tables.proofs.laws.relates_by_parts.Goals as goal

pub returns : goal.returns
returns c = relates_by_part
