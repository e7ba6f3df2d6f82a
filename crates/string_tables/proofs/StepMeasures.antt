-- The measures of the calls by which marks change: each call has a smaller one than its caller.
use Rattle.std.proofs.Common.{◌≡◌, ℕ, ◌+◌, ◌*◌, ◌<◌, max, arith}

-- from a term, whose height is h, to both parts, to the marks of both, and to each part
pub parts_fall : (h i j t : ℕ) → 3 * h ≡ t → h ≡ max i j + 1 → 3 * max i j + 2 < t
parts_fall h i j t is height = omega arith

pub both_fall : (i j t : ℕ) → 3 * max i j + 2 ≡ t → 3 * max i j + 1 < t
both_fall i j t is = omega arith

pub first_falls : (i j t : ℕ) → 3 * max i j + 1 ≡ t → 3 * i < t
first_falls i j t is = omega arith

pub second_falls : (i j t : ℕ) → 3 * max i j + 1 ≡ t → 3 * j < t
second_falls i j t is = omega arith

-- from a star to its body
pub body_falls : (h i t : ℕ) → 3 * h ≡ t → h ≡ i + 1 → 3 * i < t
body_falls h i t is height = omega arith
