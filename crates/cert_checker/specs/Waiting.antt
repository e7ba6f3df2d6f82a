-- Undecided tests that a question depends on.
use Rattle.std.specs.Prelude.{◌≡◌, ◌⊎◌, ℕ, Bool, List}
use Rattle.kat_model.specs.Members.{Has}
use Rattle.certificate.specs.PairParts.{PairParts}
use Rattle.cert_checker.specs.declared.known.TestCase.{TestCase}
use Rattle.cert_checker.specs.declared.known.Truth.{Truth}
use Rattle.cert_checker.specs.declared.known.Truth.TheVariants.{Known, Undecided as UndecidedBy}
use Rattle.cert_checker.specs.Cases.{known_of, known_test}
use Rattle.cert_checker.specs.Questions.{QuestionParts, NamesByTargets, NamesByMoves, NamesAtEnd}

-- a test that the question names depends on this undecided test
abbrev pub IsWaited : QuestionParts → TestCase → ℕ → Type 0
IsWaited q c k =
    (g : ℕ) × (((NamesByTargets q g ⊎ NamesByMoves q g) × (known_of c.begin.items g ≡ UndecidedBy k)) ⊎ (NamesAtEnd q g × (known_of c.end.items g ≡ UndecidedBy k)))

-- the test of each pair has a known value
abbrev pub AreTestsSettled : List Truth → List PairParts → Type 0
AreTestsSettled known ps = (p : PairParts) → Has ps p → (b : Bool) × (known_test known p.test ≡ Known b)
