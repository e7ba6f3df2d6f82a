-- The pieces of narrow programs have no number token of 2 to the width or more.
use Rattle.std.proofs.Common.{◌≡◌, ◌<◌, ◌+◌, ℕ, List, [], ◌∷◌, ◌++◌, length, inl, inr, sym, ap, ◌∙◌, subst}
use Rattle.std.proofs.lemmas.Bool.{cases_eq}
use Rattle.std.specs.Prelude.{codes}
use Rattle.std.specs.Fmt.{decimal}
use Rattle.kat_model.specs.declared.expression.Rel.{Rel}
use Rattle.kat_model.specs.declared.expression.Width.{Width}
use Rattle.kat_model.specs.Stores.{modulus}
use Rattle.kat_model.specs.Expressions.{ExprTree, number, variable, plus, minus, times, CondTree, always, never, named, compared, negation, both, either}
use Rattle.text_parser.specs.Pieces.{Piece, symbol, gap}
use Rattle.text_parser.specs.declared.terminal.Terminal.{Terminal}
use Rattle.text_parser.specs.declared.terminal.Terminal.TheVariants.{Zero, One, Number}
use Rattle.text_parser.specs.Terminals.{symbol_terminal, keyword_terminal, number_terminal}
use Rattle.text_parser.specs.Lexemes.{Lexeme, lexeme}
use Rattle.text_parser.specs.declared.meaning.Meaning.{Meaning}
use Rattle.text_parser.specs.declared.meaning.Meaning.TheVariants.{Test, Action, Var}
use Rattle.text_parser.specs.ScopeParts.{ScopeParts, IsIdentifier}
use Rattle.text_print.specs.Printing.{relation_text, spaced, expr_pieces, cond_pieces, ExprIsNamed, CondIsNamed}
use Rattle.text_print.proofs.WordTerminals.{relation_terminal, name_terminal, zero_written, one_written, number_is}
use Rattle.text_print.proofs.PrintedPhrases.{lexemes_from}
use Rattle.while_lang.specs.Programs.{ProgTree, empty, skip_then, abort_then, assert_then, act_then, assign_then, branch_then, loop_then}
use Rattle.while_lang.specs.ProgramPrinting.{keyword_pieces, in_curly, stmts_pieces, block_pieces, ProgIsNamed}
use Rattle.problem_file.specs.Numbers.{IsNarrow, AreNarrow}
use Rattle.problem_file.specs.ProgramNumbers.{ExprIsNarrow, CondIsNarrow, ProgIsNarrow}
use Rattle.problem_file.proofs.ProgramScopes.{below_64}

module _ (v : Width) where
  -- the tokens of the pieces are narrow, at any place
  abbrev pub PiecesAreNarrow : List Piece → Type 0
  PiecesAreNarrow ps = (at : ℕ) → AreNarrow v (lexemes_from at ps)

  -- these pieces before narrow pieces are narrow
  abbrev pub Keeps : (List Piece → List Piece) → Type 0
  Keeps pieces = (ps : List Piece) → PiecesAreNarrow ps → PiecesAreNarrow (pieces ps)

  pub narrow_front : (us ts : List Lexeme) → AreNarrow v (us ++ ts) → AreNarrow v us
  narrow_front [] ts h = tt
  narrow_front (u ∷ us) ts h = (h.0, narrow_front us ts h.1)

  narrow_as : (s t : Terminal) (at : ℕ) (text : List ℕ) → t ≡ s → IsNarrow v (lexeme s at text) → IsNarrow v (lexeme t at text)
  narrow_as s t at text e h = subst (λ (x : Terminal). IsNarrow v (lexeme x at text)) (sym e) h

  number_narrow : (n at : ℕ) → n < modulus v → IsNarrow v (lexeme (number_terminal (decimal n)) at (decimal n))
  number_narrow n at lt =
      elim (cases_eq n 0) [
        | inl e ↦ narrow_as Zero (number_terminal (decimal n)) at (decimal n) (ap number_terminal (ap decimal e ∙ zero_written)) tt
        | inr some ↦ elim (cases_eq n 1) [
          | inl e ↦ narrow_as One (number_terminal (decimal n)) at (decimal n) (ap number_terminal (ap decimal e ∙ one_written)) tt
          | inr more ↦ narrow_as (Number n) (number_terminal (decimal n)) at (decimal n) (number_is n (below_64 v n lt) some more) lt
        ]
      ]

  pub word_narrow : (name : List ℕ) → IsIdentifier name → (at : ℕ) → IsNarrow v (lexeme (keyword_terminal name) at name)
  word_narrow name is at = subst (λ (x : Terminal). IsNarrow v (lexeme x at name)) (sym (name_terminal name is.no_keyword)) tt

  relation_narrow : (r : Rel) (at : ℕ) → IsNarrow v (lexeme (symbol_terminal (relation_text r)) at (relation_text r))
  relation_narrow r at = subst (λ (x : Terminal). IsNarrow v (lexeme x at (relation_text r))) (sym (relation_terminal r)) tt

  spaced_narrow : (between : List ℕ) (left right : List Piece → List Piece) → ((at : ℕ) → IsNarrow v (lexeme (symbol_terminal between) at between)) → Keeps left → Keeps right → Keeps (spaced between left right)
  spaced_narrow between left right is f g ps h at = (
    tt,
    f (gap 32 ∷ symbol between ∷ gap 32 ∷ right (symbol (codes ")") ∷ ps))
        (λ n. (is (n + 1), g (symbol (codes ")") ∷ ps) (λ k. (tt, h (k + 1))) (n + 1 + length between + 1)))
        (at + 1),
  )

  curly_narrow : (inside : List Piece → List Piece) → Keeps inside → Keeps (in_curly inside)
  curly_narrow inside f ps h at = (tt, f (gap 32 ∷ symbol (codes "}") ∷ ps) (λ n. (tt, h (n + 1 + 1))) (at + 1))

  module _ (w : ScopeParts) (names : Meaning → List ℕ) where
    expr_narrow : (e : ExprTree) → ExprIsNamed w names e → ExprIsNarrow v e → Keeps (expr_pieces names e)
    expr_narrow (number n) is narrow ps h at = (number_narrow n at narrow, h (at + length (decimal n)))
    expr_narrow (variable k) is narrow ps h at = (word_narrow (names (Var k)) is.identifier at, h (at + length (names (Var k))))
    expr_narrow (plus e f) is narrow ps h at = spaced_narrow (codes "+") (expr_pieces names e) (expr_pieces names f) (λ n. tt) (expr_narrow e is.0 narrow.0) (expr_narrow f is.1 narrow.1) ps h at
    expr_narrow (minus e f) is narrow ps h at = spaced_narrow (codes "-") (expr_pieces names e) (expr_pieces names f) (λ n. tt) (expr_narrow e is.0 narrow.0) (expr_narrow f is.1 narrow.1) ps h at
    expr_narrow (times e f) is narrow ps h at = spaced_narrow (codes "*") (expr_pieces names e) (expr_pieces names f) (λ n. tt) (expr_narrow e is.0 narrow.0) (expr_narrow f is.1 narrow.1) ps h at

    pub cond_narrow : (b : CondTree) → CondIsNamed w names b → CondIsNarrow v b → Keeps (cond_pieces names b)
    cond_narrow always is narrow ps h at = (tt, h (at + 4))
    cond_narrow never is narrow ps h at = (tt, h (at + 5))
    cond_narrow (named k) is narrow ps h at = (word_narrow (names (Test k)) is.identifier at, h (at + length (names (Test k))))
    cond_narrow (compared r e f) is narrow ps h at = spaced_narrow (relation_text r) (expr_pieces names e) (expr_pieces names f) (relation_narrow r) (expr_narrow e is.0 narrow.0) (expr_narrow f is.1 narrow.1) ps h at
    cond_narrow (negation b) is narrow ps h at = (tt, cond_narrow b is narrow ps h (at + 1))
    cond_narrow (both b c) is narrow ps h at = spaced_narrow (codes "&&") (cond_pieces names b) (cond_pieces names c) (λ n. tt) (cond_narrow b is.0 narrow.0) (cond_narrow c is.1 narrow.1) ps h at
    cond_narrow (either b c) is narrow ps h at = spaced_narrow (codes "||") (cond_pieces names b) (cond_pieces names c) (λ n. tt) (cond_narrow b is.0 narrow.0) (cond_narrow c is.1 narrow.1) ps h at

    stmts_narrow : (p : ProgTree) → ProgIsNamed w names p → ProgIsNarrow v p → Keeps (stmts_pieces names p)
    stmts_narrow empty is narrow ps h at = h at
    stmts_narrow (skip_then rest) is narrow ps h at = (tt, (tt, stmts_narrow rest is narrow ps h (at + 1 + 4 + 1)))
    stmts_narrow (abort_then rest) is narrow ps h at = (tt, (tt, stmts_narrow rest is narrow ps h (at + 1 + 5 + 1)))
    stmts_narrow (assert_then b rest) is narrow ps h at = (
      tt,
      cond_narrow b is.0 narrow.0 (symbol (codes ";") ∷ stmts_pieces names rest ps) (λ n. (tt, stmts_narrow rest is.1 narrow.1 ps h (n + 1))) (at + 1 + 6 + 1),
    )
    stmts_narrow (act_then a rest) is narrow ps h at = (
      word_narrow (names (Action a)) is.0.identifier (at + 1),
      (tt, stmts_narrow rest is.1 narrow.1 ps h (at + 1 + length (names (Action a)) + 1)),
    )
    stmts_narrow (assign_then x e rest) is narrow ps h at = (
      word_narrow (names (Var x)) is.0.identifier (at + 1),
      (
        tt,
        expr_narrow e is.1 narrow.1 (symbol (codes ";") ∷ stmts_pieces names rest ps) (λ n. (tt, stmts_narrow rest is.2 narrow.2 ps h (n + 1))) (at + 1 + length (names (Var x)) + 1 + 2 + 1),
      ),
    )
    stmts_narrow (branch_then b p q rest) is narrow ps h at =
        let mid = stmts_pieces names rest ps in
        let second = in_curly (stmts_pieces names q) mid in
        let after = in_curly (stmts_pieces names p) (keyword_pieces (codes "else") second) in
        let last : PiecesAreNarrow second = curly_narrow (stmts_pieces names q) (stmts_narrow q is.2 narrow.2) mid (stmts_narrow rest is.3 narrow.3 ps h) in
        let otherwise : PiecesAreNarrow (keyword_pieces (codes "else") second) = λ n. (tt, last (n + 1 + 4 + 1)) in
        let first : PiecesAreNarrow after = curly_narrow (stmts_pieces names p) (stmts_narrow p is.1 narrow.1) (keyword_pieces (codes "else") second) otherwise in
        (tt, cond_narrow b is.0 narrow.0 (gap 32 ∷ after) (λ n. first (n + 1)) (at + 1 + 2 + 1))
    stmts_narrow (loop_then b p rest) is narrow ps h at =
        let mid = stmts_pieces names rest ps in
        let after = in_curly (stmts_pieces names p) mid in
        let body : PiecesAreNarrow after = curly_narrow (stmts_pieces names p) (stmts_narrow p is.1 narrow.1) mid (stmts_narrow rest is.2 narrow.2 ps h) in
        (tt, cond_narrow b is.0 narrow.0 (gap 32 ∷ after) (λ n. body (n + 1)) (at + 1 + 5 + 1))

    pub block_narrow : (p : ProgTree) → ProgIsNamed w names p → ProgIsNarrow v p → Keeps (block_pieces names p)
    block_narrow p is narrow ps h at = curly_narrow (stmts_pieces names p) (stmts_narrow p is narrow) ps h at
