use Rattle.flow_places.proofs.RowTerms.{rows_are_eliminated}
use Rattle.flow_places.proofs.laws.rows_are_eliminated.Goals as goal

pub returns : goal.returns
returns c = rows_are_eliminated
