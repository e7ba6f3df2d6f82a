-- Expressions over variables of several sorts, with functions of which nothing is known.
use Rattle.std.specs.Prelude.{ℕ, Bool}
use Rattle.kat_model.specs.declared.expression.Width.{Width}
use Rattle.flow_model.specs.declared.sort.Sort.{Sort}

-- An expression: a number of a width, a variable by its number, a sum, difference or product at a width, a conversion
-- from one width to another, signed or not, or a function, by its number and the sort of its result, applied to
-- arguments. Lists of arguments are expressions too: `no_arguments`, and an argument before others.
pub data ExprTree : Type 0 where
  number : (w : Width) → (n : ℕ) → ExprTree
  variable : (k : ℕ) → ExprTree
  plus : (w : Width) → (e f : ExprTree) → ExprTree
  minus : (w : Width) → (e f : ExprTree) → ExprTree
  times : (w : Width) → (e f : ExprTree) → ExprTree
  converted : (signed : Bool) → (from to : Width) → (e : ExprTree) → ExprTree
  applied : (f : ℕ) → (result : Sort) → (arguments : ExprTree) → ExprTree
  no_arguments : ExprTree
  argument : (e rest : ExprTree) → ExprTree
