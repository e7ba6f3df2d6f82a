-- The fold of the actions over a block, from left to right, or the first fault.
use Rattle.std.specs.Prelude.{ℕ, true, false, Result, Ok}
use Rattle.text_parser.specs.declared.fault.TextFault.{TextFault}
use Rattle.text_parser.specs.Parsed.{◌>>=◌}
use Rattle.text_parser.specs.Actions.{context}
use Rattle.text_parser.specs.Phrases.{cond, expr, Phrase}
use Rattle.text_parser.specs.Folds.{fold}
use Rattle.while_lang.specs.BlockActions.{BlockActions}
use Rattle.while_lang.specs.Blocks.{enter}
use Rattle.while_lang.specs.BlockPhrases.{BlockSymbol, BlockPhrase, braced, no_stmts, more_stmts, skip_stmt, abort_stmt, assert_stmt, name_stmt, assign_stmt, if_stmt, while_stmt, no_else, else_block, else_if}

-- the fold over a condition or an expression of a program
abbrev pub fold_cond : {E B L T M S : Type 0} → BlockActions E B L T M S → ℕ → Phrase cond → Result B TextFault
fold_cond g d b = fold g.phrases (context d false true) b g.phrases.conds.one_of

abbrev pub fold_expr : {E B L T M S : Type 0} → BlockActions E B L T M S → ℕ → Phrase expr → Result E TextFault
fold_expr g d e = fold g.phrases (context d false true) e (λ v. v)

-- by the form of the phrase; statements are added to the statements so far, and a block starts without statements
abbrev pub fold_block : {E B L T M S : Type 0} → BlockActions E B L T M S → ℕ → {x : BlockSymbol} → BlockPhrase x → S → Result S TextFault
fold_block g d (braced l ss r) s = enter d l.at >>= λ e. fold_block g e ss g.none >>= λ v. Ok (g.braced v)
fold_block g d no_stmts s = Ok s
fold_block g d (more_stmts t ss) s = fold_block g d t s >>= fold_block g d ss
fold_block g d (skip_stmt l end) s = Ok (g.skip s)
fold_block g d (abort_stmt l end) s = Ok (g.abort s)
fold_block g d (assert_stmt l b end) s = fold_cond g d b >>= λ v. Ok (g.assert s v)
fold_block g d (name_stmt l end) s = g.named d l.at l.text s
fold_block g d (assign_stmt l becomes e end) s = g.target l.at l.text >>= λ u. fold_expr g d e >>= λ v. Ok (g.assign s l.text v)
fold_block g d (if_stmt l r) s = fold_block g d r s
fold_block g d (while_stmt l b p) s = fold_cond g d b >>= λ v. fold_block g d p s >>= λ w. Ok (g.turn s v w)
fold_block g d (no_else b p) s = fold_cond g d b >>= λ v. fold_block g d p s >>= λ w. Ok (g.branch s v w g.none)
fold_block g d (else_block b p l q) s = fold_cond g d b >>= λ v. fold_block g d p s >>= λ w. fold_block g d q s >>= λ u. Ok (g.branch s v w u)
fold_block g d (else_if b p l i r) s =
    fold_cond g d b >>= λ v. fold_block g d p s >>= λ w. enter d i.at >>= λ e. fold_block g e r g.none >>= λ u. Ok (g.branch s v w (g.chained u))
