-- The pieces of a program spell its text.
use Rattle.std.proofs.Common.{◌≡◌, ℕ, List, [], ◌∷◌, ◌++◌, refl, sym, ap, ◌∙◌, append_assoc}
use Rattle.std.proofs.lemmas.List.{append-nil}
use Rattle.std.specs.Prelude.{codes}
use Rattle.kat_model.specs.Expressions.{ExprTree, CondTree}
use Rattle.text_parser.specs.Pieces.{Piece, symbol, gap, spelled}
use Rattle.text_parser.specs.declared.meaning.Meaning.{Meaning}
use Rattle.text_parser.specs.declared.meaning.Meaning.TheVariants.{Action, Var}
use Rattle.text_print.specs.Printing.{expr_text, cond_text, expr_pieces, cond_pieces}
use Rattle.text_print.proofs.PieceTexts.{expr_spells, cond_spells}
use Rattle.while_lang.specs.Programs.{ProgTree, empty, skip_then, abort_then, assert_then, act_then, assign_then, branch_then, loop_then}
use Rattle.while_lang.specs.ProgramPrinting.{keyword_pieces, in_curly, stmts_pieces, block_pieces}
use Rattle.while_lang.specs.BlockTexts.{stmts_text, block_text}

-- the pieces spell `text` before the pieces that follow
abbrev Spell : (List Piece → List Piece) → List ℕ → Type 0
Spell pieces text = (ps : List Piece) → spelled (pieces ps) ≡ text ++ spelled ps

-- the pieces of a whole phrase spell its text
pub cond_whole : (names : Meaning → List ℕ) (b : CondTree) → spelled (cond_pieces names b []) ≡ cond_text names b
cond_whole names b = cond_spells names b [] ∙ append-nil (cond_text names b)

pub expr_whole : (names : Meaning → List ℕ) (e : ExprTree) → spelled (expr_pieces names e []) ≡ expr_text names e
expr_whole names e = expr_spells names e [] ∙ append-nil (expr_text names e)

module _ (names : Meaning → List ℕ) where
  -- a condition, then the text after it
  cond_then : (b : CondTree) (ps : List Piece) (text : List ℕ) → spelled ps ≡ text → spelled (cond_pieces names b ps) ≡ cond_text names b ++ text
  cond_then b ps text e = cond_spells names b ps ∙ ap (λ (l : List ℕ). cond_text names b ++ l) e

  expr_then : (x : ExprTree) (ps : List Piece) (text : List ℕ) → spelled ps ≡ text → spelled (expr_pieces names x ps) ≡ expr_text names x ++ text
  expr_then x ps text e = expr_spells names x ps ∙ ap (λ (l : List ℕ). expr_text names x ++ l) e

  pub stmts_spell : (p : ProgTree) → Spell (stmts_pieces names p) (stmts_text names p)
  stmts_spell empty ps = refl
  stmts_spell (skip_then rest) ps = ap (λ (l : List ℕ). codes " skip;" ++ l) (stmts_spell rest ps)
  stmts_spell (abort_then rest) ps = ap (λ (l : List ℕ). codes " abort;" ++ l) (stmts_spell rest ps)
  stmts_spell (assert_then b rest) ps =
      ap (λ (l : List ℕ). codes " assert " ++ l) (cond_then b (symbol (codes ";") ∷ stmts_pieces names rest ps) (codes ";" ++ stmts_text names rest ++ spelled ps) (ap (λ (l : List ℕ). codes ";" ++ l) (stmts_spell rest ps)))
      ∙ sym (simp append_assoc)
  stmts_spell (act_then a rest) ps =
      ap (λ (l : List ℕ). codes " " ++ (names (Action a) ++ (codes ";" ++ l))) (stmts_spell rest ps) ∙ sym (simp append_assoc)
  stmts_spell (assign_then x e rest) ps =
      ap (λ (l : List ℕ). codes " " ++ (names (Var x) ++ (codes " := " ++ l))) (expr_then e (symbol (codes ";") ∷ stmts_pieces names rest ps) (codes ";" ++ stmts_text names rest ++ spelled ps) (ap (λ (l : List ℕ). codes ";" ++ l) (stmts_spell rest ps)))
      ∙ sym (simp append_assoc)
  stmts_spell (branch_then b p q rest) ps =
      let last = ap (λ (l : List ℕ). codes " }" ++ l) (stmts_spell rest ps) in
      let second = stmts_spell q (gap 32 ∷ symbol (codes "}") ∷ stmts_pieces names rest ps) ∙ ap (λ (l : List ℕ). stmts_text names q ++ l) last in
      let middle = ap (λ (l : List ℕ). codes " } else {" ++ l) second in
      let first = stmts_spell p (gap 32 ∷ symbol (codes "}") ∷ keyword_pieces (codes "else") (in_curly (stmts_pieces names q) (stmts_pieces names rest ps))) ∙ ap (λ (l : List ℕ). stmts_text names p ++ l) middle in
      ap (λ (l : List ℕ). codes " if " ++ l) (cond_then b (gap 32 ∷ in_curly (stmts_pieces names p) (keyword_pieces (codes "else") (in_curly (stmts_pieces names q) (stmts_pieces names rest ps))))
      (codes " {" ++ (stmts_text names p ++ (codes " } else {" ++ (stmts_text names q ++ (codes " }" ++ (stmts_text names rest ++ spelled ps)))))) (ap (λ (l : List ℕ). codes " {" ++ l) first))
      ∙ sym (simp append_assoc)
  stmts_spell (loop_then b p rest) ps =
      let last = ap (λ (l : List ℕ). codes " }" ++ l) (stmts_spell rest ps) in
      let body = stmts_spell p (gap 32 ∷ symbol (codes "}") ∷ stmts_pieces names rest ps) ∙ ap (λ (l : List ℕ). stmts_text names p ++ l) last in
      ap (λ (l : List ℕ). codes " while " ++ l) (cond_then b (gap 32 ∷ in_curly (stmts_pieces names p) (stmts_pieces names rest ps))
      (codes " {" ++ (stmts_text names p ++ (codes " }" ++ (stmts_text names rest ++ spelled ps)))) (ap (λ (l : List ℕ). codes " {" ++ l) body))
      ∙ sym (simp append_assoc)

  pub block_spelled : (p : ProgTree) → spelled (block_pieces names p []) ≡ block_text names p
  block_spelled p = ap (λ (l : List ℕ). codes "{" ++ l) (stmts_spell p (gap 32 ∷ symbol (codes "}") ∷ []))

  -- a block written to an empty buffer is spelled by its pieces
  pub block_printed : (p : ProgTree) (old new : List ℕ) → old ≡ [] → new ≡ old ++ block_text names p → new ≡ spelled (block_pieces names p [])
  block_printed p old new e h = rw (h, e, block_spelled p) refl
