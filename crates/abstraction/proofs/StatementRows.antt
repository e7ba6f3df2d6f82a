-- The comparisons and the assignments of a list of statements are those of the first statement and those of the others.
use Rattle.std.proofs.Common.{◌≡◌, ℕ, ◌+◌, ◌<◌, List, ◌∷◌, ◌++◌, length, drop, get_or, refl, sym, ap, ◌∙◌}
use Rattle.std.proofs.lemmas.List.{append-nil, drop_more}
use Rattle.linear_forms.specs.declared.comparison.Atomic.{Atomic}
use Rattle.while_lang.specs.Programs.{ProgTree, empty, StmtTree, skip, abort, assert, act, assign, branch, loop, with_stmt}
use Rattle.while_lang.specs.ProgramViews.{stmt_tree, list_tree}
use Rattle.while_lang.specs.declared.prog.Stmt.{Stmt}
use Rattle.abstraction.specs.Comparisons.{Assignment, prog_comparisons, prog_assignments}
use Rattle.linear_forms.specs.Sameness.{is_same_comparison}
use Rattle.abstraction.specs.Tables.{is_same_assignment}
use Rattle.kat_model.specs.UniqueRows.{with_all_new_within}
use Rattle.kat_model.proofs.CappedTables.{with_all_new_within-append}

pub prog_comparisons-with_stmt : (m : ℕ) (s : StmtTree) (rest : ProgTree) → prog_comparisons m (with_stmt s rest) ≡ prog_comparisons m (with_stmt s empty) ++ prog_comparisons m rest
prog_comparisons-with_stmt m skip rest = refl
prog_comparisons-with_stmt m abort rest = refl
prog_comparisons-with_stmt m (assert b) rest = simp append-nil
prog_comparisons-with_stmt m (act a) rest = refl
prog_comparisons-with_stmt m (assign x e) rest = refl
prog_comparisons-with_stmt m (branch b p q) rest = simp append-nil
prog_comparisons-with_stmt m (loop b p) rest = simp append-nil

pub prog_assignments-with_stmt : (m : ℕ) (s : StmtTree) (rest : ProgTree) → prog_assignments m (with_stmt s rest) ≡ prog_assignments m (with_stmt s empty) ++ prog_assignments m rest
prog_assignments-with_stmt m skip rest = refl
prog_assignments-with_stmt m abort rest = refl
prog_assignments-with_stmt m (assert b) rest = refl
prog_assignments-with_stmt m (act a) rest = refl
prog_assignments-with_stmt m (assign x e) rest = refl
prog_assignments-with_stmt m (branch b p q) rest = simp append-nil
prog_assignments-with_stmt m (loop b p) rest = simp append-nil

module _ (m n : ℕ) (items : List Stmt) (i : ℕ) (x : Stmt) (lt : i < length items) (e : x ≡ get_or items i x) where
  left : drop i items ≡ x ∷ drop (i + 1) items
  left = drop_more items i x lt ∙ ap (λ y. y ∷ drop (i + 1) items) (sym e)

  -- one step of a loop over the statements: the remaining ones give the same rows
  pub comparisons_go_on : (rows new : List Atomic) → new ≡ with_all_new_within n is_same_comparison rows (prog_comparisons m (with_stmt (stmt_tree x) empty)) →
      with_all_new_within n is_same_comparison new (prog_comparisons m (list_tree (drop (i + 1) items))) ≡ with_all_new_within n is_same_comparison rows (prog_comparisons m (list_tree (drop i items)))
  comparisons_go_on rows new f =
      rw (f, left, prog_comparisons-with_stmt m (stmt_tree x) (list_tree (drop (i + 1) items)))
      (sym (with_all_new_within-append n is_same_comparison rows (prog_comparisons m (with_stmt (stmt_tree x) empty)) (prog_comparisons m (list_tree (drop (i + 1) items)))))

  pub assignments_go_on : (rows new : List Assignment) → new ≡ with_all_new_within n is_same_assignment rows (prog_assignments m (with_stmt (stmt_tree x) empty)) →
      with_all_new_within n is_same_assignment new (prog_assignments m (list_tree (drop (i + 1) items))) ≡ with_all_new_within n is_same_assignment rows (prog_assignments m (list_tree (drop i items)))
  assignments_go_on rows new f =
      rw (f, left, prog_assignments-with_stmt m (stmt_tree x) (list_tree (drop (i + 1) items)))
      (sym (with_all_new_within-append n is_same_assignment rows (prog_assignments m (with_stmt (stmt_tree x) empty)) (prog_assignments m (list_tree (drop (i + 1) items)))))
