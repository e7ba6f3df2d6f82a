-- The text of statements, as an additional statement is written.
use Rattle.std.proofs.Common.{◌≡◌, ◌+◌, ◌<◌, ℕ, List, ◌++◌, length, drop, get_or, refl, sym, ap, ◌∙◌, append_assoc}
use Rattle.std.proofs.lemmas.List.{drop_more}
use Rattle.std.specs.Prelude.{codes}
use Rattle.kat_model.specs.Expressions.{ExprTree, CondTree}
use Rattle.text_print.specs.Printing.{expr_text, cond_text}
use Rattle.text_parser.specs.declared.meaning.Meaning.{Meaning}
use Rattle.while_lang.specs.Programs.{ProgTree, StmtTree, skip, abort, assert, act, assign, branch, loop, with_stmt}
use Rattle.while_lang.specs.ProgramViews.{stmt_tree, list_tree}
use Rattle.while_lang.specs.declared.prog.Stmt.{Stmt}
use Rattle.while_lang.specs.BlockTexts.{assign_text, stmts_text, block_text, stmt_text}

module _ (names : Meaning → List ℕ) where
  text_of_first : (s : StmtTree) (rest : ProgTree) → stmts_text names (with_stmt s rest) ≡ stmt_text names s ++ stmts_text names rest
  text_of_first skip rest = refl
  text_of_first abort rest = refl
  text_of_first (assert b) rest = refl
  text_of_first (act a) rest = refl
  text_of_first (assign x e) rest = refl
  text_of_first (branch b p q) rest = refl
  text_of_first (loop b p) rest = refl

  pub text_more : (items : List Stmt) (i : ℕ) (x : Stmt) → i < length items → x ≡ get_or items i x → (old new whole : List ℕ) → new ≡ old ++ stmt_text names (stmt_tree x) → old ++ stmts_text names (list_tree (drop i items)) ≡ whole
      → new ++ stmts_text names (list_tree (drop (i + 1) items)) ≡ whole
  text_more items i x lt is old new whole written inv =
      let rest = list_tree (drop (i + 1) items) in
      let left : list_tree (drop i items) ≡ with_stmt (stmt_tree x) rest = ap list_tree (drop_more items i x lt) ∙ ap (λ (s : Stmt). with_stmt (stmt_tree s) rest) (sym is) in
      ap (λ (l : List ℕ). l ++ stmts_text names rest) written
      ∙ append_assoc old (stmt_text names (stmt_tree x)) (stmts_text names rest)
      ∙ ap (λ (l : List ℕ). old ++ l) (sym (text_of_first (stmt_tree x) rest))
      ∙ ap (λ (p : ProgTree). old ++ stmts_text names p) (sym left)
      ∙ inv

  -- ---- statements by their parts

  pub assign_written : (name : List ℕ) (e : ExprTree) (old one two : List ℕ) → one ≡ old ++ (codes " " ++ (name ++ codes " := ")) → two ≡ one ++ expr_text names e → two ++ codes ";" ≡ old ++ assign_text names name e
  assign_written name e old one two target value = rw (value, target) (simp append_assoc)

  pub branch_written : (b : CondTree) (p q : ProgTree) (old one two three : List ℕ) → one ≡ old ++ (codes " if " ++ (cond_text names b ++ codes " ")) → two ≡ one ++ block_text names p → three ≡ two ++ codes " else " →
      three ++ block_text names q ≡ old ++ stmt_text names (branch b p q)
  branch_written b p q old one two three guard first middle = rw (middle, first, guard) (simp append_assoc)

  pub loop_written : (b : CondTree) (p : ProgTree) (old one : List ℕ) → one ≡ old ++ (codes " while " ++ (cond_text names b ++ codes " ")) → one ++ block_text names p ≡ old ++ stmt_text names (loop b p)
  loop_written b p old one guard = rw (guard) (simp append_assoc)
