use Rattle.std.proofs.Common.{◌≡◌, ◌≤◌, drop, length}
use Rattle.kat_model.specs.Stores.{modulus}
use Rattle.linear_forms.specs.Forms.{form_of}
use Rattle.linear_forms.specs.Substitution.{replaced}
use Rattle.linear_forms.proofs.substitution.+replaced.Given as goal

-- the total is the form of the terms from i on, with the variable replaced
abbrev pub invariant-replace-loop-i : goal.invariant-replace-loop-i
invariant-replace-loop-i l = record {
  within : l.i ≤ length l.form-inside.terms.items;
  whole : l.total ≡ replaced (modulus l.width) l.var l.by (form_of (drop l.i l.form-inside.terms.items) l.form-inside.constant);
}

abbrev pub decreases-replace-loop-i : goal.decreases-replace-loop-i
decreases-replace-loop-i l = l.i
