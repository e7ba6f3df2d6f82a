-- Stores of a width, and the values of expressions and the truth of conditions in them.
use Rattle.std.specs.Prelude.{ℕ, ◌+◌, ◌-◌, ◌*◌, ◌%◌, ◌^◌, ◌<◌, List, slice_index_or, Bool, true, false, not, ◌&&◌, ◌||◌, nat_eq, nat_lt}
use Rattle.kat_model.specs.Members.{Has}
use Rattle.kat_model.specs.Expressions.{ExprTree, number, variable, plus, minus, times, CondTree, always, never, named, compared, negation, both, either}
use Rattle.kat_model.specs.declared.expression.Width.{Width}
use Rattle.kat_model.specs.declared.expression.Width.TheVariants.{W8, W16, W32, W64}
use Rattle.kat_model.specs.declared.expression.Rel.{Rel}
use Rattle.kat_model.specs.declared.expression.Rel.TheVariants.{Eq, Ne, Lt, Le, Gt, Ge}

abbrev pub bits : Width → ℕ
bits W8 = 8
bits W16 = 16
bits W32 = 32
bits W64 = 64

-- the number of values of the width
abbrev pub modulus : Width → ℕ
modulus w = 2 ^ bits w

-- the values of the variables, variable 0 first
abbrev pub Store : Type 0
Store = List ℕ

abbrev pub IsStore : Width → Store → Type 0
IsStore w s = (n : ℕ) → Has s n → n < modulus w

-- the value of an expression, modulo the number of values; an undefined variable is 0
abbrev pub value : Width → Store → ExprTree → ℕ
value w s (number n) = n % modulus w
value w s (variable k) = slice_index_or s k 0
value w s (plus e f) = (value w s e + value w s f) % modulus w
value w s (minus e f) = (value w s e + (modulus w - value w s f)) % modulus w
value w s (times e f) = (value w s e * value w s f) % modulus w

-- whether the relation holds between two numbers
abbrev pub compares : Rel → ℕ → ℕ → Bool
compares Eq m n = nat_eq m n
compares Ne m n = not (nat_eq m n)
compares Lt m n = nat_lt m n
compares Le m n = not (nat_lt n m)
compares Gt m n = nat_lt n m
compares Ge m n = not (nat_lt m n)

-- whether a condition holds in a store; a named test is false, since a store gives it no value
abbrev pub holds : Width → Store → CondTree → Bool
holds w s always = true
holds w s never = false
holds w s (named k) = false
holds w s (compared rel e f) = compares rel (value w s e) (value w s f)
holds w s (negation b) = not (holds w s b)
holds w s (both b c) = holds w s b && holds w s c
holds w s (either b c) = holds w s b || holds w s c
