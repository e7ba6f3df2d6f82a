-- The semantic actions of the parser. Actions may reject a part; the other faults of a phrase are its syntax, its depth
-- and numbers that are too wide.
use Rattle.std.specs.Prelude.{ℕ, ◌+◌, List, Bool, true, if◌then◌else◌, nat_lt, Result, Ok, Err}
use Rattle.kat_model.specs.declared.limits.TheConstants.{MAX_OPEN}
use Rattle.kat_model.specs.declared.expression.Rel.{Rel}
use Rattle.text_parser.specs.declared.fault.TextFault.{TextFault}
use Rattle.text_parser.specs.declared.fault.TextFault.TheVariants.{TooDeep}
use Rattle.text_parser.specs.declared.reading.Context.{Context}
use Rattle.text_parser.specs.declared.reading.Operator.{Operator}

-- the context of a place
abbrev pub context : ℕ → Bool → Bool → Context
context depth negated compares = record { depth = depth; negated = negated; compares = compares }

-- the context after one more construct opens at place `at`
abbrev pub enter : Context → ℕ → Result Context TextFault
enter c at = if nat_lt c.depth MAX_OPEN then Ok (context (c.depth + 1) c.negated c.compares) else Err (TooDeep at)

-- the context of the operand of a `!` at place `at`
abbrev pub enter_not : Context → ℕ → Result Context TextFault
enter_not c at = if nat_lt c.depth MAX_OPEN then Ok (context (c.depth + 1) true c.compares) else Err (TooDeep at)

-- the actions of expressions
pub record ExprActions (E : Type 0) : Type 0 where
  pub number : Context → ℕ → ℕ → Result E TextFault
  pub variable : Context → ℕ → List ℕ → Result E TextFault
  pub join : Operator → E → E → E
  pub enclosed : E → E

-- the actions of conditions and of lists of conditions
pub record CondActions (E B L : Type 0) : Type 0 where
  pub exprs : ExprActions E
  pub always : B
  pub never : B
  pub named : Context → ℕ → List ℕ → Result B TextFault
  pub compare : Rel → E → E → B
  pub negated : B → B
  pub enclosed : B → B
  pub one_of : B → L
  pub more : L → B → L
  pub all : L → B
  pub any : L → B

-- the actions of terms and of lists of terms
pub record Actions (E B L T M : Type 0) : Type 0 where
  pub conds : CondActions E B L
  pub zero : T
  pub one : T
  pub named : Context → ℕ → List ℕ → Result T TextFault
  pub negated : T → T
  pub tested : B → T
  pub enclosed : T → T
  pub starred : Context → ℕ → T → Result T TextFault
  pub one_of : T → M
  pub more : M → T → M
  pub sum : M → T
  pub product : M → T
