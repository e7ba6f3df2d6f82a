-- The tests and actions of a problem are numbered below 2^64.
use Rattle.std.proofs.Common.{◌<◌, ◌≤◌, ◌^◌, ℕ, refl, arith, ltb-true}
use Rattle.kat_model.specs.declared.limits.TheConstants.{MAX_TESTS, MAX_ACTIONS}

-- a number below a count of a problem is below 2^64
pub small : (most k n : ℕ) → most < 2 ^ 64 → k < n → n ≤ most → k < 2 ^ 64
small most k n wide lt le = omega (arith, lt, le, wide)

pub few_tests : MAX_TESTS < 2 ^ 64
few_tests = ltb-true MAX_TESTS (2 ^ 64) refl

pub few_actions : MAX_ACTIONS < 2 ^ 64
few_actions = ltb-true MAX_ACTIONS (2 ^ 64) refl
