use Rattle.piece_evidence.proofs.ReadSpelled.{written_evidence, joined_evidence}
use Rattle.piece_evidence.proofs.laws.texts_are_evidence.Goals as goal

pub returns : goal.returns
returns c = record { written = written_evidence; joined = joined_evidence }
