use Rattle.std.proofs.Common.{◌≡◌, length}
use Rattle.kat_model.specs.Stores.{modulus}
use Rattle.store_trials.specs.Following.{has_values}
use Rattle.store_trials.proofs.followed.has_values.Given as goal

-- the remaining tests decide
abbrev pub invariant-loop-row : goal.invariant-loop-row
invariant-loop-row l = record {
  lengths : length l.row-iterator.a.rest.now ≡ length l.row-iterator.b.rest.now;
  rest : has_values (modulus l.width) l.store l.row-iterator.a.rest.now l.row-iterator.b.rest.now ≡ has_values (modulus l.width) l.store l.rows l.atom;
}
