use Rattle.flow_pieces.proofs.QuestionsEnough.{questions_enough}
use Rattle.flow_pieces.proofs.laws.agreed_pieces_are_enough.Goals as goal

pub returns : goal.returns
returns c = questions_enough
