use Rattle.std.proofs.Common.{◌≡◌, ◌++◌, drop}
use Rattle.std.specs.Prelude.{flat_map}
use Rattle.kat_model.specs.Stores.{modulus}
use Rattle.store_trials.specs.Numbers.{near, tried}
use Rattle.store_trials.proofs.numbers.tried.Given as goal

-- the numbers so far, and those near the remaining ones
abbrev pub invariant-loop-number : goal.invariant-loop-number
invariant-loop-number l = l.out.items ++ flat_map (near (modulus l.width)) (drop l.number-index l.numbers) ≡ tried l.width l.numbers
