-- The form of a move.
use Rattle.std.proofs.Common.{◌≡◌, ℕ, ◌^◌, ◌≤◌, List, map, length, Bool, true, false, ◌==◌, nat_lt, Some, None, refl, arith}
use Rattle.std.specs.List.{list_all}
use Rattle.std.proofs.lemmas.Bool.{le-leb}
use Rattle.std.proofs.lemmas.Bool.Decides.{nat_tests}
use Rattle.kat_model.specs.Steps.{Atom}
use Rattle.kat_model.specs.Strings.{Move, GuardedString}
use Rattle.line_format.specs.NumberedLines.{fault_after}
use Rattle.certificate.specs.declared.evidence.EvidenceFault.TheVariants.{Line, NumberTooWide}
use Rattle.certificate.specs.Faults.{move_format}
use Rattle.line_format.specs.Numerals.{is_numeral, value_of, too_wide}
use Rattle.certificate.specs.Forms.{is_bit, bits_of, atom_of_words, move_after, move_of}

pub move_read : (act : List ℕ) (ws : List (List ℕ)) (atom : Atom) → is_numeral act ≡ true → Some atom ≡ atom_of_words ws → move_after act ws ≡ Some (record { act = value_of act; atom = atom })
move_read act ws atom numeral read = rw (numeral, ← read) refl

pub wide_move : (act : List ℕ) (ws : List (List ℕ)) (atom : Atom) → is_numeral act ≡ true → Some atom ≡ atom_of_words ws → 2 ^ 64 ≤ value_of act → (m : Move) × (move_after act ws ≡ Some m) × (too_wide m.act ≡ true)
wide_move act ws atom numeral read wide = (record { act = value_of act; atom = atom }, move_read act ws atom numeral read, le-leb (2 ^ 64) (value_of act) wide)

some_length : (n : ℕ) → (n == 0) ≡ false → nat_lt 0 n ≡ true
some_length n e = grind (arith, nat_tests)

-- a word of bits
pub bits_read : (w : List ℕ) (values : List Bool) → (length w == 0) ≡ false → list_all is_bit w ≡ true → values ≡ map (λ c. c == 49) w → Some values ≡ bits_of w
bits_read w values some all e = rw (some_length (length w) some, all, e) refl

-- ---- the faults of the line of a move

pub formless : (x : GuardedString) (n : ℕ) (line : List ℕ) → move_of line ≡ None → fault_after move_format x n (move_of line) ≡ Some (Line n)
formless x n line none = rw none refl

pub wide_move_fault : (x : GuardedString) (n : ℕ) (line : List ℕ) (m : Move) → move_of line ≡ Some m → too_wide m.act ≡ true → fault_after move_format x n (move_of line) ≡ Some (NumberTooWide n)
wide_move_fault x n line m move wide = rw (move, wide) refl
