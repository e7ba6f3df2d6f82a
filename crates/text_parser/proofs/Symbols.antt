-- The symbols by their length.
use Rattle.std.proofs.Common.{◌≡◌, ◌<◌, ◌≤◌, ℕ, List, [], ◌∷◌, length, get_or, refl, arith}
use Rattle.std.proofs.Math.Bool.{and-true, and-false}
use Rattle.text_parser.specs.declared.terminal.Terminal.TheVariants.{Other}
use Rattle.text_parser.specs.Terminals.{symbol_terminal}
use Rattle.text_parser.specs.Working.Symbols.{symbol_of_one, symbol_of_two}

pub one_byte : (text : List ℕ) → 1 ≤ length text → length text < 2 → symbol_of_one (get_or text 0 0) ≡ symbol_terminal text
one_byte [] some few = absurd (omega arith)
one_byte (a ∷ []) some few = simp (and-true, and-false)
one_byte (a ∷ b ∷ text) some few = absurd (omega arith)

pub two_bytes : (text : List ℕ) → 2 ≤ length text → length text < 3 → symbol_of_two (get_or text 0 0) (get_or text 1 0) ≡ symbol_terminal text
two_bytes [] some few = absurd (omega arith)
two_bytes (a ∷ []) some few = absurd (omega arith)
two_bytes (a ∷ b ∷ []) some few = simp (and-true, and-false)
two_bytes (a ∷ b ∷ d ∷ text) some few = absurd (omega arith)

pub no_byte : (text : List ℕ) → length text < 1 → Other ≡ symbol_terminal text
no_byte [] few = refl
no_byte (a ∷ text) few = absurd (omega arith)

pub more_bytes : (text : List ℕ) → 3 ≤ length text → Other ≡ symbol_terminal text
more_bytes [] many = absurd (omega arith)
more_bytes (a ∷ []) many = absurd (omega arith)
more_bytes (a ∷ b ∷ []) many = absurd (omega arith)
more_bytes (a ∷ b ∷ d ∷ text) many = simp (and-false)
