use Rattle.std.proofs.Common.{◌≡◌, take}
use Rattle.linear_forms.proofs.form.+copies.Given as goal

-- the terms so far are copied
abbrev pub invariant-Form::copy-loop-term : goal.invariant-Form::copy-loop-term
invariant-Form::copy-loop-term l = l.terms.items ≡ take l.term-index l.self-inside.terms.items
