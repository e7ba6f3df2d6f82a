-- Degrees as the program counts them.
use Rattle.std.specs.Prelude.{ℕ, min, Option, Some, None}

-- the degree, or 2 if it is higher or not bounded
abbrev pub capped : Option ℕ → ℕ
capped None = 2
capped (Some n) = min n 2
