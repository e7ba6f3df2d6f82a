use Rattle.std.proofs.Common.{◌≡◌, drop}
use Rattle.kat_model.specs.Stores.{modulus}
use Rattle.linear_forms.specs.Forms.{form_of}
use Rattle.linear_forms.proofs.Signs.{sign_cmp}
use Rattle.linear_forms.proofs.comparison.cmp_negative.Given as goal

-- the remaining terms decide
abbrev pub invariant-loop-term : goal.invariant-loop-term
invariant-loop-term l =
    sign_cmp (modulus l.width) (form_of l.form-inside.terms.items l.form-inside.constant)
    ≡ sign_cmp (modulus l.width) (form_of (drop l.term-index l.form-inside.terms.items) l.form-inside.constant)
