use Rattle.std.proofs.Common.{◌≡◌, ◌++◌, drop, true}
use Rattle.kat_model.specs.Stores.{modulus}
use Rattle.linear_forms.specs.Forms.{form_of}
use Rattle.text_print.specs.Printing.{name_of}
use Rattle.tool_explain.specs.Signed.{half_sum}
use Rattle.tool_explain.proofs.signed.put_half.Given as goal

-- the text written so far, and the text of the remaining terms
abbrev pub invariant-loop-term : goal.invariant-loop-term
invariant-loop-term l =
    l.out.items ++ half_sum (modulus l.width) l.side (name_of l.scope) l.first (form_of (drop l.term-index l.term-items) l.form-inside.constant)
    ≡ l.initial.out.items ++ half_sum (modulus l.width) l.side (name_of l.scope) true (form_of l.term-items l.form-inside.constant)
