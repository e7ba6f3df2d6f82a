-- Numbers of nodes that are counted up to a bound.
use Rattle.std.proofs.Common.{◌≡◌, ℕ, Bool, true, false, min, refl, arith}
use Rattle.std.proofs.lemmas.Bool.Decides.{nat_tests}
use Rattle.flow_syntax.specs.declared.node_counts.TheConstants.{MOST}
use Rattle.flow_syntax.specs.Sizes.{few_nodes}

-- more nodes than the bound are too many
pub few_capped : (short : Bool) (n m : ℕ) → few_nodes short n (min m MOST) ≡ few_nodes short n m
few_capped false n m = refl
few_capped true n m = grind (arith, nat_tests)
