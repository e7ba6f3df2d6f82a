-- The pieces of a printed program are tokens that the following pieces do not extend.
use Rattle.std.proofs.Common.{ℕ, List, [], ◌∷◌, refl}
use Rattle.std.specs.Prelude.{codes}
use Rattle.text_parser.specs.declared.token.Kind.TheVariants.{Symbol}
use Rattle.text_parser.specs.Pieces.{Piece, symbol, gap, spelled, EndsBefore, AreSeparate}
use Rattle.text_parser.proofs.PrintedWords.{keyword_is_name}
use Rattle.text_parser.specs.declared.meaning.Meaning.{Meaning}
use Rattle.text_parser.specs.ScopeParts.{ScopeParts}
use Rattle.text_print.specs.Printing.{expr_pieces, cond_pieces}
use Rattle.text_print.proofs.Separate.{EndsWords, blank_ends, expr_separate, cond_separate}
use Rattle.while_lang.specs.Programs.{ProgTree, empty, skip_then, abort_then, assert_then, act_then, assign_then, branch_then, loop_then}
use Rattle.while_lang.specs.ProgramPrinting.{keyword_pieces, in_curly, stmts_pieces, block_pieces, ProgIsNamed}

-- ---- symbols that no byte extends

semicolon_alone : (rest : List ℕ) → EndsBefore Symbol (codes ";") rest
semicolon_alone [] = tt
semicolon_alone (b ∷ bs) = refl

pub open_alone : (rest : List ℕ) → EndsBefore Symbol (codes "{") rest
open_alone [] = tt
open_alone (b ∷ bs) = refl

close_alone : (rest : List ℕ) → EndsBefore Symbol (codes "}") rest
close_alone [] = tt
close_alone (b ∷ bs) = refl

pub semicolon_ends : (ps : List Piece) → EndsWords (symbol (codes ";") ∷ ps)
semicolon_ends ps = record { name = λ b. refl; number = λ b. refl }

-- ---- statements

semicolon_separate : (ps : List Piece) → AreSeparate ps → AreSeparate (symbol (codes ";") ∷ ps)
semicolon_separate ps after = (refl, semicolon_alone (spelled ps), after)

module _ (w : ScopeParts) (names : Meaning → List ℕ) where
  curly_separate : (inside : List Piece → List Piece) → ((ps : List Piece) → AreSeparate ps → AreSeparate (inside ps)) → (ps : List Piece) → AreSeparate ps → AreSeparate (in_curly inside ps)
  curly_separate inside f ps after =
      let last : AreSeparate (symbol (codes "}") ∷ ps) = (refl, close_alone (spelled ps), after) in
      let body : AreSeparate (inside (gap 32 ∷ symbol (codes "}") ∷ ps)) = f (gap 32 ∷ symbol (codes "}") ∷ ps) (refl, last) in
      (refl, open_alone (spelled (inside (gap 32 ∷ symbol (codes "}") ∷ ps))), body)

  stmts_separate : (p : ProgTree) → ProgIsNamed w names p → (ps : List Piece) → AreSeparate ps → AreSeparate (stmts_pieces names p ps)
  stmts_separate empty is ps after = after
  stmts_separate (skip_then rest) is ps after = (refl, (keyword_is_name (codes "skip") refl, refl, semicolon_separate (stmts_pieces names rest ps) (stmts_separate rest is ps after)))
  stmts_separate (abort_then rest) is ps after = (refl, (keyword_is_name (codes "abort") refl, refl, semicolon_separate (stmts_pieces names rest ps) (stmts_separate rest is ps after)))
  stmts_separate (assert_then b rest) is ps after =
      let later = semicolon_separate (stmts_pieces names rest ps) (stmts_separate rest is.1 ps after) in
      let cond : AreSeparate (cond_pieces names b (symbol (codes ";") ∷ stmts_pieces names rest ps)) = cond_separate w names b is.0 (symbol (codes ";") ∷ stmts_pieces names rest ps) (semicolon_ends (stmts_pieces names rest ps)) later in
      (refl, (keyword_is_name (codes "assert") refl, refl, (refl, cond)))
  stmts_separate (act_then a rest) is ps after =
      (refl, (is.0.identifier.name, refl, semicolon_separate (stmts_pieces names rest ps) (stmts_separate rest is.1 ps after)))
  stmts_separate (assign_then x e rest) is ps after =
      let later = semicolon_separate (stmts_pieces names rest ps) (stmts_separate rest is.2 ps after) in
      let expr : AreSeparate (expr_pieces names e (symbol (codes ";") ∷ stmts_pieces names rest ps)) = expr_separate w names e is.1 (symbol (codes ";") ∷ stmts_pieces names rest ps) (semicolon_ends (stmts_pieces names rest ps)) later in
      (refl, (is.0.identifier.name, refl, (refl, (refl, refl, (refl, expr)))))
  stmts_separate (branch_then b p q rest) is ps after =
      let second : AreSeparate (in_curly (stmts_pieces names q) (stmts_pieces names rest ps)) = curly_separate (stmts_pieces names q) (stmts_separate q is.2) (stmts_pieces names rest ps) (stmts_separate rest is.3 ps after) in
      let middle : AreSeparate (keyword_pieces (codes "else") (in_curly (stmts_pieces names q) (stmts_pieces names rest ps))) = (refl, (keyword_is_name (codes "else") refl, refl, (refl, second))) in
      let first = curly_separate (stmts_pieces names p) (stmts_separate p is.1) (keyword_pieces (codes "else") (in_curly (stmts_pieces names q) (stmts_pieces names rest ps))) middle in
      let rest_of = in_curly (stmts_pieces names p) (keyword_pieces (codes "else") (in_curly (stmts_pieces names q) (stmts_pieces names rest ps))) in
      let cond : AreSeparate (cond_pieces names b (gap 32 ∷ rest_of)) = cond_separate w names b is.0 (gap 32 ∷ rest_of) (blank_ends rest_of) (refl, first) in
      (refl, (keyword_is_name (codes "if") refl, refl, (refl, cond)))
  stmts_separate (loop_then b p rest) is ps after =
      let body = curly_separate (stmts_pieces names p) (stmts_separate p is.1) (stmts_pieces names rest ps) (stmts_separate rest is.2 ps after) in
      let rest_of = in_curly (stmts_pieces names p) (stmts_pieces names rest ps) in
      let cond : AreSeparate (cond_pieces names b (gap 32 ∷ rest_of)) = cond_separate w names b is.0 (gap 32 ∷ rest_of) (blank_ends rest_of) (refl, body) in
      (refl, (keyword_is_name (codes "while") refl, refl, (refl, cond)))

  pub block_separate : (p : ProgTree) → ProgIsNamed w names p → (ps : List Piece) → AreSeparate ps → AreSeparate (block_pieces names p ps)
  block_separate p is ps after = curly_separate (stmts_pieces names p) (stmts_separate p is) ps after
