-- The values of expressions and conditions under an interpretation of the functions.
use Rattle.std.specs.Prelude.{ℕ, ◌+◌, ◌-◌, ◌*◌, ◌%◌, ◌^◌, List, [], ◌∷◌, Bool, true, false, not, ◌&&◌, ◌||◌, nat_lt, slice_index_or, if◌then◌else◌}
use Rattle.kat_model.specs.Stores.{bits, modulus, compares}
use Rattle.kat_model.specs.declared.expression.Width.{Width}
use Rattle.flow_model.specs.Sorts.{State, value_in}
use Rattle.flow_model.specs.Expressions.{ExprTree, number, variable, plus, minus, times, converted, applied, no_arguments, argument}
use Rattle.flow_model.specs.Conditions.{CondTree, always, never, compared, compared_signed, negation, both, either}

-- an interpretation: for each function, by its number, a function from lists of values to numbers
abbrev pub Interpretation : Type 0
Interpretation = ℕ → List ℕ → ℕ

-- whether a number of a width is negative as two's complement
abbrev pub is_negative : Width → ℕ → Bool
is_negative w n = not (nat_lt n (2 ^ (bits w - 1)))

-- a number of width `from`, or its two's complement if `signed`, modulo 2 to the width `to`
abbrev pub conversion : Bool → Width → Width → ℕ → ℕ
conversion false from to n = n % modulus to
conversion true from to n = (if is_negative from n then n + (2 ^ 64 - modulus from) else n) % modulus to

-- a number of the width, moved so that two's complements are compared as numbers: the least one becomes 0
abbrev pub biased : Width → ℕ → ℕ
biased w n = (n + 2 ^ (bits w - 1)) % modulus w

abbrev pub first : List ℕ → ℕ
first [] = 0
first (n ∷ ns) = n

-- the values of a list of arguments, or the one value of an expression
abbrev pub values : Interpretation → State → ExprTree → List ℕ
values I s (number w n) = n % modulus w ∷ []
values I s (variable k) = slice_index_or s k 0 ∷ []
values I s (plus w e f) = (first (values I s e) + first (values I s f)) % modulus w ∷ []
values I s (minus w e f) = (first (values I s e) + (modulus w - first (values I s f))) % modulus w ∷ []
values I s (times w e f) = (first (values I s e) * first (values I s f)) % modulus w ∷ []
values I s (converted signed from to e) = conversion signed from to (first (values I s e)) ∷ []
values I s (applied f result arguments) = value_in result (I f (values I s arguments)) ∷ []
values I s no_arguments = []
values I s (argument e rest) = first (values I s e) ∷ values I s rest

-- the value of an expression
abbrev pub value : Interpretation → State → ExprTree → ℕ
value I s e = first (values I s e)

-- whether a condition holds
abbrev pub holds : Interpretation → State → CondTree → Bool
holds I s always = true
holds I s never = false
holds I s (compared rel e f) = compares rel (value I s e) (value I s f)
holds I s (compared_signed rel w e f) = compares rel (biased w (value I s e)) (biased w (value I s f))
holds I s (negation b) = not (holds I s b)
holds I s (both b c) = holds I s b && holds I s c
holds I s (either b c) = holds I s b || holds I s c
