-- Programs whose numbers fit a width.
use Rattle.std.specs.Prelude.{◌<◌}
use Rattle.kat_model.specs.Expressions.{ExprTree, CondTree}
use Rattle.kat_model.specs.declared.expression.Width.{Width}
use Rattle.kat_model.specs.Stores.{modulus}
use Rattle.while_lang.specs.Programs.{ProgTree}
use Rattle.while_lang.specs.Leaves.{Anything, EveryExprLeaf, EveryCondLeaf, EveryLeaf}

-- each number of the expression is below 2 to the width
abbrev pub ExprIsNarrow : Width → ExprTree → Type 0
ExprIsNarrow w e = EveryExprLeaf (λ n. n < modulus w) Anything e

-- likewise for a condition
abbrev pub CondIsNarrow : Width → CondTree → Type 0
CondIsNarrow w b = EveryCondLeaf (λ n. n < modulus w) Anything Anything b

-- likewise for a program
abbrev pub ProgIsNarrow : Width → ProgTree → Type 0
ProgIsNarrow w p = EveryLeaf (λ n. n < modulus w) Anything Anything Anything p
