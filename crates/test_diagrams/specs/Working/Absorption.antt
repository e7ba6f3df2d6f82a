-- When one of two operands is the result of an operation with an absorbing and a neutral value, such as `and` and `or`.
use Rattle.std.specs.Prelude.{◌≡◌, ◌⊎◌, ℕ}

-- the first operand is the result: it is the absorbing value, the second is the neutral value, or the two are equal
abbrev pub FirstSuffices : ℕ → ℕ → ℕ → ℕ → Type 0
FirstSuffices a b absorbing neutral = (a ≡ absorbing) ⊎ ((b ≡ neutral) ⊎ (a ≡ b))

-- the second operand is the result: the first is the neutral value, or the second is the absorbing value
abbrev pub SecondSuffices : ℕ → ℕ → ℕ → ℕ → Type 0
SecondSuffices a b absorbing neutral = (a ≡ neutral) ⊎ (b ≡ absorbing)

-- the id is that of the operand that is the result
abbrev pub IsAbsorbed : ℕ → ℕ → ℕ → ℕ → ℕ → Type 0
IsAbsorbed a b absorbing neutral id = ((id ≡ a) × FirstSuffices a b absorbing neutral) ⊎ ((id ≡ b) × SecondSuffices a b absorbing neutral)
