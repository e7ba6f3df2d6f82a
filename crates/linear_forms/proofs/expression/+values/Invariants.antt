use Rattle.std.proofs.Common.{◌≡◌, ◌+◌, ◌%◌, drop}
use Rattle.kat_model.specs.Stores.{modulus}
use Rattle.linear_forms.specs.Values.{polynomial}
use Rattle.linear_forms.proofs.Polynomials.{terms_polynomial}
use Rattle.linear_forms.proofs.expression.+values.Given as goal

-- the total plus the value of the remaining terms is the value of all terms
abbrev pub invariant-value-loop-term : goal.invariant-value-loop-term
invariant-value-loop-term l = record {
  cut : l.total % modulus l.width ≡ l.total;
  whole : (l.total + terms_polynomial l.store (drop l.term-index l.term-items)) % modulus l.width ≡ polynomial l.store l.form % modulus l.width;
}
