-- The sizes of programs, counted up to the largest number of 64 bits.
use Rattle.std.proofs.Common.{◌≡◌, ◌≤◌, ◌<◌, ◌+◌, ◌^◌, ℕ, List, length, drop, get_or, sym, ap, ◌∙◌, arith}
use Rattle.std.proofs.lemmas.List.{at_drop_all}
use Rattle.kat_model.specs.Problems.{counted}
use Rattle.while_lang.specs.Programs.{ProgTree, StmtTree, empty, skip, abort, assert, act, assign, branch, loop, with_stmt}
use Rattle.while_lang.specs.ProgramViews.{stmt_tree, list_tree}
use Rattle.while_lang.specs.ProgramSizes.{prog_size}
use Rattle.while_lang.specs.declared.prog.Stmt.{Stmt}
use Rattle.while_lang.proofs.ProgramLists.{left}

pub prog_size-with_stmt : (s : StmtTree) (rest : ProgTree) → prog_size (with_stmt s rest) ≡ prog_size (with_stmt s empty) + prog_size rest
prog_size-with_stmt skip rest = omega arith
prog_size-with_stmt abort rest = omega arith
prog_size-with_stmt (assert b) rest = omega arith
prog_size-with_stmt (act a) rest = omega arith
prog_size-with_stmt (assign x e) rest = omega arith
prog_size-with_stmt (branch b p q) rest = omega arith
prog_size-with_stmt (loop b p) rest = omega arith

-- ---- the size of a statement by those of its parts

two_counted : (m n x y z : ℕ) → x ≡ counted m → y ≡ counted n → z ≡ counted (x + y) → z ≡ counted (m + n)
two_counted m n x y z first second sum = omega arith

-- one node above a part
pub above_counted : (m x z : ℕ) → x ≡ counted m → z ≡ counted (x + 1) → z ≡ counted (1 + m + 0)
above_counted m x z part next = omega arith

pub loop_counted : (b p x y z w : ℕ) → x ≡ counted b → y ≡ counted p → z ≡ counted (x + y) → w ≡ counted (z + 1) → w ≡ counted (1 + b + p + 0)
loop_counted b p x y z w cond body sum next =
    let same : 1 + (b + p) + 0 ≡ 1 + b + p + 0 = omega arith in
    above_counted (b + p) z w (two_counted b p x y z cond body sum) next ∙ ap (λ (n : ℕ). counted n) same

pub branch_counted : (b p q x y z u v w : ℕ) → x ≡ counted b → y ≡ counted p → z ≡ counted q → u ≡ counted (x + y) → v ≡ counted (u + z) → w ≡ counted (v + 1) → w ≡ counted (1 + b + p + q + 0)
branch_counted b p q x y z u v w cond first second sum total next =
    let same : 1 + (b + p + q) + 0 ≡ 1 + b + p + q + 0 = omega arith in
    above_counted (b + p + q) v w (two_counted (b + p) q u z v (two_counted b p x y u cond first sum) second total) next ∙ ap (λ (n : ℕ). counted n) same

-- ---- the size of a list of statements

counted_more : (total one rest size next whole : ℕ) → size ≡ counted one → next ≡ counted (total + size) → counted (total + (one + rest)) ≡ whole → counted (next + rest) ≡ whole
counted_more total one rest size next whole part sum before =
    let same : counted (next + rest) ≡ counted (total + (one + rest)) = omega (arith, part, sum) in
    same ∙ before

module _ (items : List Stmt) (i total whole : ℕ) (before : counted (total + prog_size (list_tree (drop i items))) ≡ whole) where
  -- one step of a loop over the statements
  pub sized_more : (x : Stmt) (size next : ℕ) → i < length items → x ≡ get_or items i x → size ≡ counted (prog_size (with_stmt (stmt_tree x) empty)) → next ≡ counted (total + size) →
      counted (next + prog_size (list_tree (drop (i + 1) items))) ≡ whole
  sized_more x size next lt is part sum =
      let rest = list_tree (drop (i + 1) items) in
      let first : prog_size (list_tree (drop i items)) ≡ prog_size (with_stmt (stmt_tree x) empty) + prog_size rest = ap prog_size (left items i x lt is) ∙ prog_size-with_stmt (stmt_tree x) rest in
      counted_more total (prog_size (with_stmt (stmt_tree x) empty)) (prog_size rest) size next whole part sum (ap (λ (n : ℕ). counted (total + n)) (sym first) ∙ before)

  -- no statement remains
  pub sized_all : length items ≤ i → total < 2 ^ 64 → total ≡ whole
  sized_all le fits =
      let none : prog_size (list_tree (drop i items)) ≡ 0 = at_drop_all (λ (ss : List Stmt). prog_size (list_tree ss)) items i le in
      let same : total ≡ counted (total + prog_size (list_tree (drop i items))) = omega (arith, none, fits) in
      same ∙ before
