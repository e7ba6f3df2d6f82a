-- Numbers of 2^64 and more.
use Rattle.std.proofs.Common.{◌≡◌, ℕ, ◌≤◌, ◌^◌, ◌==◌, true, false, List, Option, Some, None, arith}
use Rattle.std.proofs.lemmas.Bool.Decides.{nat_tests}
use Rattle.line_format.specs.Numerals.{is_numeral, value_of}
use Rattle.lrat_checker.specs.Numbers.{NumberParts, nothing, plus, minus, unsigned, negated}
use Rattle.lrat_checker.specs.Working.WordLists.{IsWide, IsWideBelow}

pub unsigned_wide : (w : List ℕ) → is_numeral w ≡ true → 2 ^ 64 ≤ value_of w → IsWide (unsigned w)
unsigned_wide w e wide =
    let some : (value_of w == 0) ≡ false = grind (arith, nat_tests) in
    rw (e, some) wide

pub negated_wide : (o : Option NumberParts) → IsWide o → IsWideBelow (negated o)
negated_wide None wide = wide
negated_wide (Some nothing) wide = wide
negated_wide (Some (plus k)) wide = wide
negated_wide (Some (minus k)) wide = absurd wide
