use Rattle.std.proofs.Common.{◌+◌, ◌*◌, max}
use Rattle.partial_derivs.proofs.derivatives.Derivatives.+derive.Given as goal

-- parts have smaller ids
abbrev pub decreases-derive : goal.decreases-derive
decreases-derive l = 3 * l.term + 1

abbrev pub decreases-steps_of : goal.decreases-steps_of
decreases-steps_of l = 3 * l.term + 2

abbrev pub decreases-derive_sum : goal.decreases-derive_sum
decreases-derive_sum l = 3 * max l.e l.f + 3

abbrev pub decreases-derive_product : goal.decreases-derive_product
decreases-derive_product l = 3 * max l.e l.f + 3

abbrev pub decreases-derive_star : goal.decreases-derive_star
decreases-derive_star l = 3 * l.e + 3
