-- The value of an expression under actions, computed from left to right, or the first fault.
use Rattle.std.specs.Prelude.{ℕ, false, Result, Ok}
use Rattle.kat_model.specs.Trees.{TestTree}
use Rattle.kat_model.specs.Expressions.{test_without_comparisons}
use Rattle.text_parser.specs.declared.fault.TextFault.{TextFault}
use Rattle.text_parser.specs.Parsed.{◌>>=◌}
use Rattle.text_parser.specs.Actions.{context}
use Rattle.text_parser.specs.Phrases.{cond, Phrase}
use Rattle.text_parser.specs.Folds.{fold}
use Rattle.text_parser.specs.ScopeParts.{ScopeParts}
use Rattle.text_parser.specs.Measuring.{extents}
use Rattle.text_parser.specs.Building.{trees}
use Rattle.while_lang.specs.Blocks.{enter}
use Rattle.gkat_front.specs.Expressions.{GkatTree}
use Rattle.gkat_front.specs.GkatActions.{GkatActions}
use Rattle.gkat_front.specs.GkatMaking.{making_expr}
use Rattle.gkat_front.specs.GkatPhrases.{Guard, GkatSymbol, expr, factors, GkatPhrase, one_product, two_products, one_factor, more_factors, once, repeated, zero_unit, one_unit, name_unit, guard_unit, round_unit}

-- the value of a condition, from the number of open constructs around it
abbrev pub CondFold : Type 0 → Type 0
CondFold C = ℕ → Phrase cond → Result C TextFault

-- the value of a phrase; for factors, given how the first factor extends the product before it
abbrev pub Folded : Type 0 → Type 0 → GkatSymbol → Type 0
Folded P V factors = (V → P) → Result V TextFault
Folded P V _ = Result V TextFault

-- the value of a condition in brackets
abbrev pub fold_guard : {C : Type 0} → CondFold C → ℕ → Guard → Result C TextFault
fold_guard t d b = enter d b.opening.at >>= λ e. t e b.inner

-- the value of a phrase, by its form
abbrev pub fold_gkat : {C P V : Type 0} → GkatActions C P V → CondFold C → ℕ → {x : GkatSymbol} → GkatPhrase x → Folded P V x
fold_gkat g t d (one_product p) = fold_gkat g t d p g.first
fold_gkat g t d (two_products p plus b q) =
    fold_gkat g t d p g.first >>= λ v. fold_guard t d b >>= λ c. fold_gkat g t d q g.first >>= λ w. Ok (g.choice c v w)
fold_gkat g t d (one_factor x) = λ k. fold_gkat g t d x >>= λ v. Ok (g.product (k v))
fold_gkat g t d (more_factors x dot p) = λ k. fold_gkat g t d x >>= λ v. fold_gkat g t d p (g.more (k v))
fold_gkat g t d (once u) = fold_gkat g t d u
fold_gkat g t d (repeated u caret b) = fold_gkat g t d u >>= λ v. fold_guard t d b >>= λ c. Ok (g.loop c v)
fold_gkat g t d (zero_unit l) = Ok g.never
fold_gkat g t d (one_unit l) = Ok g.always
fold_gkat g t d (name_unit l) = g.name l.at l.text
fold_gkat g t d (guard_unit b) = fold_guard t d b >>= λ c. Ok (g.test c)
fold_gkat g t d (round_unit opening e closing) = enter d opening.at >>= λ n. fold_gkat g t n e

-- the test of a condition in a scope, or the first fault of its names
abbrev pub cond_fold : ScopeParts → CondFold TestTree
cond_fold w d p =
    fold (extents w) (context d false false) p (extents w).conds.one_of
    >>= λ m. fold (trees w) (context d false false) p (trees w).conds.one_of
    >>= λ b. Ok (test_without_comparisons b)

-- the tree of an expression in a scope, or the first fault of its names in text order
abbrev pub gkat_of : ScopeParts → GkatPhrase expr → Result GkatTree TextFault
gkat_of w p = fold_gkat (making_expr w) (cond_fold w) 0 p
