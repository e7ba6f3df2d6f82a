-- Results with the index after their phrase.
use Rattle.std.specs.Prelude.{ℕ, Result, Ok, Err}
use Rattle.text_parser.specs.declared.fault.TextFault.{TextFault}

-- what an action made, with the index after its phrase; a fault remains
abbrev pub with_end : {V : Type 0} → ℕ → Result V TextFault → Result (V × ℕ) TextFault
with_end end (Ok v) = Ok (v, end)
with_end end (Err e) = Err e
