-- The scopes of texts of questions.
use Rattle.std.specs.Prelude.{◌≡◌, ℕ, List}
use Rattle.text_parser.specs.declared.meaning.Meaning.{Meaning}
use Rattle.text_parser.specs.ScopeParts.{ScopeParts, Means}
use Rattle.problem_file.specs.Questions.{plain_name}
use Rattle.problem_file.specs.NamedTexts.{IsOneOf}

-- the scope declares the names of `tests` tests and `actions` actions, and no others
pub record DeclaresNames (names : Meaning → List ℕ) (w : ScopeParts) (tests actions : ℕ) : Type 0 where
  pub means : (m : Meaning) → IsOneOf tests actions m → Means w (names m) m
  pub only : (name : List ℕ) (m : Meaning) → Means w name m → (name ≡ names m) × IsOneOf tests actions m

-- the names are the plain ones
abbrev pub IsPlain : ScopeParts → ℕ → ℕ → Type 0
IsPlain w tests actions = DeclaresNames plain_name w tests actions
