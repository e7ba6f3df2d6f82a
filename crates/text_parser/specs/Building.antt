-- The tree of a phrase in a scope.
use Rattle.std.specs.Prelude.{List, [], ◌∷◌, ◌++◌, slice_get, Ok, Option, Some, None}
use Rattle.kat_model.specs.Trees.{prim, Term, zero, one, test, act, star}
use Rattle.kat_model.specs.Trees.{complement}
use Rattle.kat_model.specs.Balanced.{sum_of, product_of}
use Rattle.kat_model.specs.Expressions.{ExprTree, number, variable, plus, minus, times, CondTree, always, never, named, compared, negation, any_of, all_of, test_without_comparisons}
use Rattle.text_parser.specs.declared.reading.Operator.{Operator}
use Rattle.text_parser.specs.declared.reading.Operator.TheVariants.{Add, Subtract, Multiply}
use Rattle.text_parser.specs.Actions.{ExprActions, CondActions, Actions}
use Rattle.text_parser.specs.declared.meaning.Meaning.{Meaning}
use Rattle.text_parser.specs.declared.meaning.Meaning.TheVariants.{Test, Action, Var, Term as TermName}
use Rattle.text_parser.specs.Sizes.{as_test}
use Rattle.text_parser.specs.ScopeParts.{Definition, ScopeParts, meaning}

abbrev pub joined : Operator → ExprTree → ExprTree → ExprTree
joined Add e f = plus e f
joined Subtract e f = minus e f
joined Multiply e f = times e f

-- the tree of a name in an expression; a name of another sort gets an arbitrary tree, since measuring rejects it
-- earlier
abbrev pub variable_tree : Option Meaning → ExprTree
variable_tree (Some (Var k)) = variable k
variable_tree _ = number 0

abbrev pub condition_tree : Option Meaning → CondTree
condition_tree (Some (Test k)) = named k
condition_tree _ = never

abbrev pub defined_tree : Option Definition → Term
defined_tree (Some d) = d.tree
defined_tree None = zero

abbrev pub name_tree : ScopeParts → Option Meaning → Term
name_tree w (Some (Test k)) = test (prim k)
name_tree w (Some (Action a)) = act a
name_tree w (Some (TermName i)) = defined_tree (slice_get w.terms i)
name_tree w _ = zero

abbrev pub expr_trees : ScopeParts → ExprActions ExprTree
expr_trees w = record {
  number = λ c at n. Ok (number n);
  variable = λ c at text. Ok (variable_tree (meaning w text));
  join = joined;
  enclosed = λ e. e;
}

abbrev pub cond_trees : ScopeParts → CondActions ExprTree CondTree (List CondTree)
cond_trees w = record {
  exprs = expr_trees w;
  always = always;
  never = never;
  named = λ c at text. Ok (condition_tree (meaning w text));
  compare = compared;
  negated = negation;
  enclosed = λ b. b;
  one_of = λ b. b ∷ [];
  more = λ bs b. bs ++ b ∷ [];
  all = all_of;
  any = any_of;
}

abbrev pub trees : ScopeParts → Actions ExprTree CondTree (List CondTree) Term (List Term)
trees w = record {
  conds = cond_trees w;
  zero = zero;
  one = one;
  named = λ c at text. Ok (name_tree w (meaning w text));
  negated = λ e. test (complement (as_test e));
  tested = λ b. test (test_without_comparisons b);
  enclosed = λ e. e;
  starred = λ c at e. Ok (star e);
  one_of = λ e. e ∷ [];
  more = λ es e. es ++ e ∷ [];
  sum = sum_of;
  product = product_of;
}
