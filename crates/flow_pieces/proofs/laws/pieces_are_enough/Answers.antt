use Rattle.flow_pieces.proofs.Enough.{enough}
use Rattle.flow_pieces.proofs.laws.pieces_are_enough.Goals as goal

pub returns : goal.returns
returns c = enough
