-- What is known of the move of a question.
use Rattle.std.specs.Prelude.{◌≡◌, ℕ, Bool, true, false, ◌&&◌, ◌||◌}
use Rattle.std.specs.List.{list_any}
use Rattle.kat_model.specs.Members.{Has}
use Rattle.cert_checker.specs.Cases.{known_of, known_test, known_and, truly, falsely}
use Rattle.cert_checker.specs.Questions.{QuestionParts}
use Rattle.cert_checker.specs.Waiting.{IsWaited}
use Rattle.cert_checker.specs.declared.known.TestCase.{TestCase}
use Rattle.cert_checker.specs.declared.known.Truth.TheVariants.{Known}
use Rattle.cert_checker.specs.declared.moves.MoveStatus.{MoveStatus}
use Rattle.cert_checker.specs.declared.moves.MoveStatus.TheVariants.{Counts, Tied, Undecided}

-- a move is excluded if the pair's test is false, or if both tests of a forbidden pair are true; it counts if the
-- pair's test is true and each forbidden pair has a false test
abbrev pub is_excluded : QuestionParts → TestCase → Bool
is_excluded q c =
    falsely (known_test c.begin.items q.pair_test) || list_any (λ f. truly (known_of c.begin.items f.0) && truly (known_of c.end.items f.1)) q.action_pass.forbidden

pub record DoesCount (q : QuestionParts) (c : TestCase) : Type 0 where
  pub pair_test : known_test c.begin.items q.pair_test ≡ Known true
  pub free : (f : ℕ × ℕ) → Has q.action_pass.forbidden f → known_and (known_of c.begin.items f.0) (known_of c.end.items f.1) ≡ Known false

abbrev pub IsMoveStatus : QuestionParts → TestCase → MoveStatus → Type 0
IsMoveStatus q c Counts = DoesCount q c
IsMoveStatus q c (Tied k) = IsWaited q c k
IsMoveStatus q c (Undecided k) = IsWaited q c k
