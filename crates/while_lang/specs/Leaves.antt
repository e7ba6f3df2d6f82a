-- Programs whose leaves have a property: one of numbers, one of variables, one of tests and one of actions. A variable
-- to which a program assigns is a leaf, too.
use Rattle.std.specs.Prelude.{ℕ}
use Rattle.kat_model.specs.Expressions.{ExprTree, number, variable, plus, minus, times, CondTree, always, never, named, compared, negation, both, either}
use Rattle.while_lang.specs.Programs.{ProgTree, empty, skip_then, abort_then, assert_then, act_then, assign_then, branch_then, loop_then}

-- the property that all leaves have
abbrev pub Anything : ℕ → Type 0
Anything n = Unit {0}

abbrev pub EveryExprLeaf : (ℕ → Type 0) → (ℕ → Type 0) → ExprTree → Type 0
EveryExprLeaf N V (number n) = N n
EveryExprLeaf N V (variable k) = V k
EveryExprLeaf N V (plus e f) = EveryExprLeaf N V e × EveryExprLeaf N V f
EveryExprLeaf N V (minus e f) = EveryExprLeaf N V e × EveryExprLeaf N V f
EveryExprLeaf N V (times e f) = EveryExprLeaf N V e × EveryExprLeaf N V f

abbrev pub EveryCondLeaf : (ℕ → Type 0) → (ℕ → Type 0) → (ℕ → Type 0) → CondTree → Type 0
EveryCondLeaf N V T always = Unit {0}
EveryCondLeaf N V T never = Unit {0}
EveryCondLeaf N V T (named k) = T k
EveryCondLeaf N V T (compared r e f) = EveryExprLeaf N V e × EveryExprLeaf N V f
EveryCondLeaf N V T (negation b) = EveryCondLeaf N V T b
EveryCondLeaf N V T (both b c) = EveryCondLeaf N V T b × EveryCondLeaf N V T c
EveryCondLeaf N V T (either b c) = EveryCondLeaf N V T b × EveryCondLeaf N V T c

abbrev pub EveryLeaf : (ℕ → Type 0) → (ℕ → Type 0) → (ℕ → Type 0) → (ℕ → Type 0) → ProgTree → Type 0
EveryLeaf N V T A empty = Unit {0}
EveryLeaf N V T A (skip_then rest) = EveryLeaf N V T A rest
EveryLeaf N V T A (abort_then rest) = EveryLeaf N V T A rest
EveryLeaf N V T A (assert_then b rest) = EveryCondLeaf N V T b × EveryLeaf N V T A rest
EveryLeaf N V T A (act_then a rest) = A a × EveryLeaf N V T A rest
EveryLeaf N V T A (assign_then x e rest) = V x × EveryExprLeaf N V e × EveryLeaf N V T A rest
EveryLeaf N V T A (branch_then b p q rest) = EveryCondLeaf N V T b × EveryLeaf N V T A p × EveryLeaf N V T A q × EveryLeaf N V T A rest
EveryLeaf N V T A (loop_then b p rest) = EveryCondLeaf N V T b × EveryLeaf N V T A p × EveryLeaf N V T A rest
