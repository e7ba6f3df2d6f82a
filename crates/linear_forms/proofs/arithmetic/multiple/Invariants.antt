use Rattle.std.proofs.Common.{◌≡◌, ◌++◌}
use Rattle.kat_model.specs.Stores.{modulus}
use Rattle.linear_forms.specs.Forms.{terms_of}
use Rattle.linear_forms.specs.Arithmetic.{scale}
use Rattle.linear_forms.proofs.arithmetic.multiple.Given as goal

-- the terms written, and the multiples of the remaining terms, are the whole multiple
abbrev pub invariant-loop-term : goal.invariant-loop-term
invariant-loop-term l = l.to.items ++ scale (modulus l.width) l.times l.term-iterator.rest.items ≡ scale (modulus l.width) l.times (terms_of l.fn.form)
