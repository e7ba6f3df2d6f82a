-- Expressions and conditions as trees, without the addresses of the boxes.
use Rattle.std.specs.Prelude.{ℕ, List, Bool, true, false, ◌||◌}
use Rattle.kat_model.specs.Trees.{TestTree, bottom, top, prim, complement, meet, join}
use Rattle.kat_model.specs.Balanced.{balanced}
use Rattle.kat_model.specs.declared.expression.Rel.{Rel}
use Rattle.kat_model.specs.declared.expression.Expr.{Expr}
use Rattle.kat_model.specs.declared.expression.Expr.TheVariants.{Num, Var, Add', Sub', Mul'}
use Rattle.kat_model.specs.declared.expression.Cond.{Cond}
use Rattle.kat_model.specs.declared.expression.Cond.TheVariants.{True, False, Test as Tested, Compare, Not', And', Or'}

-- a number, a variable by its number, or a sum, difference or product
pub data ExprTree : Type 0 where
  number : (n : ℕ) → ExprTree
  variable : (k : ℕ) → ExprTree
  plus : (e f : ExprTree) → ExprTree
  minus : (e f : ExprTree) → ExprTree
  times : (e f : ExprTree) → ExprTree

-- a Boolean combination of named tests, by their numbers, and of comparisons
pub data CondTree : Type 0 where
  always : CondTree
  never : CondTree
  named : (k : ℕ) → CondTree
  compared : (rel : Rel) → (e f : ExprTree) → CondTree
  negation : (b : CondTree) → CondTree
  both : (b c : CondTree) → CondTree
  either : (b c : CondTree) → CondTree

-- the tree of an expression of the program
abbrev pub expr_tree : Expr → ExprTree
expr_tree (Num n) = number n
expr_tree (Var k) = variable k
expr_tree (Add' p e q f) = plus (expr_tree e) (expr_tree f)
expr_tree (Sub' p e q f) = minus (expr_tree e) (expr_tree f)
expr_tree (Mul' p e q f) = times (expr_tree e) (expr_tree f)

-- the tree of a condition of the program
abbrev pub cond_tree : Cond → CondTree
cond_tree True = always
cond_tree False = never
cond_tree (Tested k) = named k
cond_tree (Compare rel e f) = compared rel (expr_tree e) (expr_tree f)
cond_tree (Not' p b) = negation (cond_tree b)
cond_tree (And' p b q c) = both (cond_tree b) (cond_tree c)
cond_tree (Or' p b q c) = either (cond_tree b) (cond_tree c)

-- the condition that some condition of a list holds; `all_of`: that all hold
abbrev pub any_of : List CondTree → CondTree
any_of = balanced never either

abbrev pub all_of : List CondTree → CondTree
all_of = balanced always both

-- whether a comparison occurs in the condition
abbrev pub has_comparison : CondTree → Bool
has_comparison always = false
has_comparison never = false
has_comparison (named k) = false
has_comparison (compared rel e f) = true
has_comparison (negation b) = has_comparison b
has_comparison (both b c) = has_comparison b || has_comparison c
has_comparison (either b c) = has_comparison b || has_comparison c

-- the test of a condition without comparisons; a comparison counts as false
abbrev pub test_without_comparisons : CondTree → TestTree
test_without_comparisons always = top
test_without_comparisons never = bottom
test_without_comparisons (named k) = prim k
test_without_comparisons (compared rel e f) = bottom
test_without_comparisons (negation b) = complement (test_without_comparisons b)
test_without_comparisons (both b c) = meet (test_without_comparisons b) (test_without_comparisons c)
test_without_comparisons (either b c) = join (test_without_comparisons b) (test_without_comparisons c)
