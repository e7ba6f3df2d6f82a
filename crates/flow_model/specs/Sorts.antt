-- Values of sorts. A number sort has the numbers below 2 to its width; the values of an opaque sort are numbers of any
-- size, of which only equality speaks.
use Rattle.std.specs.Prelude.{ℕ, ◌%◌, ◌<◌, List, [], ◌∷◌}
use Rattle.kat_model.specs.Stores.{modulus}
use Rattle.flow_model.specs.declared.sort.Sort.{Sort}
use Rattle.flow_model.specs.declared.sort.Sort.TheVariants.{Number, Opaque}

-- the number is a value of the sort
abbrev pub IsValue : Sort → ℕ → Type 0
IsValue (Number w) n = n < modulus w
IsValue (Opaque k) n = Unit {0}

-- the value of the sort that a number stands for: in a number sort, the number modulo 2 to the width
abbrev pub value_in : Sort → ℕ → ℕ
value_in (Number w) n = n % modulus w
value_in (Opaque k) n = n

-- a state: the values of the variables, variable 0 first
abbrev pub State : Type 0
State = List ℕ

-- each variable has a value of its sort, and there are no others
abbrev pub IsState : List Sort → State → Type 0
IsState [] [] = Unit {0}
IsState (sort ∷ sorts) (n ∷ ns) = IsValue sort n × IsState sorts ns
IsState sorts ns = ⊥
