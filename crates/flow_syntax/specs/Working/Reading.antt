-- What the functions of the reader do.
use Rattle.std.specs.Prelude.{◌≡◌, ◌<◌, ◌≤◌, ℕ, ◌+◌, List, [], ◌∷◌, length, drop, Option, Some, None, Result, Ok, Err}
use Rattle.text_parser.specs.declared.fault.TextFault.{TextFault}
use Rattle.text_parser.specs.declared.fault.TextFault.TheVariants.{NoMemory}
use Rattle.flow_syntax.specs.declared.rule.Mark.{Mark}
use Rattle.flow_syntax.specs.declared.rule.Part.{Part}
use Rattle.flow_syntax.specs.declared.rule.Step.{Step}
use Rattle.flow_syntax.specs.Moves.{Move, state, moved, refused}

-- the result is the token at index `i`, or `None` if there is none
abbrev pub Sees : Option Mark → List Mark → ℕ → Type 0
Sees None ms i = (drop i ms ≡ []) × (length ms ≤ i)
Sees (Some m) ms i = (drop i ms ≡ m ∷ drop (i + 1) ms) × (i < length ms)

-- the program's result agrees with a move: the step, the next index and depth, with the parts `ps` to be read, or the
-- fault
abbrev pub Makes : List Mark → List Part → Result (Step × ℕ × ℕ) TextFault → Move → Type 0
Makes ms ps (Ok x) m = m ≡ moved x.0 (state x.2 ps (drop x.1 ms))
Makes ms ps (Err NoMemory) m = Unit {0}
Makes ms ps (Err fault) m = m ≡ refused fault
