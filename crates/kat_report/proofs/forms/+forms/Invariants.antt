use Rattle.std.proofs.Common.{◌≡◌, ◌++◌, drop, true}
use Rattle.linear_forms.specs.Forms.{form_of}
use Rattle.text_print.specs.Printing.{name_of}
use Rattle.kat_report.specs.Shows.{sum_text}
use Rattle.kat_report.proofs.forms.+forms.Given as goal

-- the text written so far, and the text of the remaining terms
abbrev pub invariant-put_form-loop-term : goal.invariant-put_form-loop-term
invariant-put_form-loop-term l =
    l.out.items ++ sum_text (name_of l.scope) l.first (form_of (drop l.term-index l.term-items) l.form-inside.constant)
    ≡ l.initial.out.items ++ sum_text (name_of l.scope) true (form_of l.term-items l.form-inside.constant)
