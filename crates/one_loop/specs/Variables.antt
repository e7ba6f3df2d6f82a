-- Programs whose variables are below a bound.
use Rattle.std.specs.Prelude.{ℕ, ◌<◌}
use Rattle.kat_model.specs.Expressions.{ExprTree, CondTree}
use Rattle.while_lang.specs.Programs.{ProgTree}
use Rattle.while_lang.specs.Leaves.{Anything, EveryExprLeaf, EveryCondLeaf, EveryLeaf}

-- each variable of the expression is below v
abbrev pub ExprHasVarsBelow : ℕ → ExprTree → Type 0
ExprHasVarsBelow v e = EveryExprLeaf Anything (λ k. k < v) e

-- each variable of the condition is below v
abbrev pub CondHasVarsBelow : ℕ → CondTree → Type 0
CondHasVarsBelow v b = EveryCondLeaf Anything (λ k. k < v) Anything b

-- each variable of the program is below v. Not `IsProgInRange`, which also speaks of tests and actions and is in a crate
-- above.
abbrev pub HasVarsBelow : ℕ → ProgTree → Type 0
HasVarsBelow v p = EveryLeaf Anything (λ k. k < v) Anything Anything p
