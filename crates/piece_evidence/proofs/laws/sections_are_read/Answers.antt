use Rattle.piece_evidence.proofs.SpelledRead.{evidence_read}
use Rattle.piece_evidence.proofs.ReadSpelled.{read_evidence}
use Rattle.piece_evidence.proofs.laws.sections_are_read.Goals as goal

pub returns : goal.returns
returns c = λ bytes ss. (evidence_read bytes ss, read_evidence bytes ss)
