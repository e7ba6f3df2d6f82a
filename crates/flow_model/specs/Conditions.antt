-- Conditions: Boolean combinations of comparisons, unsigned or as two's complement.
use Rattle.kat_model.specs.declared.expression.Rel.{Rel}
use Rattle.kat_model.specs.declared.expression.Width.{Width}
use Rattle.flow_model.specs.Expressions.{ExprTree}

pub data CondTree : Type 0 where
  always : CondTree
  never : CondTree
  compared : (rel : Rel) → (e f : ExprTree) → CondTree
  compared_signed : (rel : Rel) → (w : Width) → (e f : ExprTree) → CondTree
  negation : (b : CondTree) → CondTree
  both : (b c : CondTree) → CondTree
  either : (b c : CondTree) → CondTree
