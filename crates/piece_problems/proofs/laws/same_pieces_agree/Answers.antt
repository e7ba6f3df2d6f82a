use Rattle.piece_problems.proofs.SamePieces.{pieces_agree}
use Rattle.piece_problems.proofs.laws.same_pieces_agree.Goals as goal

pub returns : goal.returns
returns c = pieces_agree
