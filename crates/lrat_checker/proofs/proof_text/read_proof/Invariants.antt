use Rattle.std.proofs.Common.{◌≡◌, length}
use Rattle.lrat_checker.specs.Words.{read_from}
use Rattle.lrat_checker.specs.ProofTexts.{proof_format, proof_of}
use Rattle.lrat_checker.specs.Working.ReadTexts.{left_of, last_of, proof_read}
use Rattle.lrat_checker.proofs.proof_text.read_proof.Given as goal

abbrev pub invariant-words : goal.invariant-words
invariant-words l = read_from proof_format (proof_read l.draft) (left_of l.words) (last_of l.words) ≡ proof_of l.bytes

abbrev pub decreases-words : goal.decreases-words
decreases-words l = length (left_of l.words)
