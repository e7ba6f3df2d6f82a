-- The numbers of a program are those of its statements, in order.
use Rattle.std.proofs.Common.{◌≡◌, ◌+◌, ◌<◌, ◌≤◌, ℕ, List, [], ◌∷◌, ◌++◌, length, get_or, drop, refl, sym, ap, ◌∙◌, append_assoc}
use Rattle.std.proofs.lemmas.List.{append-nil, drop_more, drop_all}
use Rattle.while_lang.specs.Programs.{ProgTree, StmtTree, skip, abort, assert, act, assign, branch, loop, empty, with_stmt}
use Rattle.while_lang.specs.ProgramViews.{stmt_tree, list_tree}
use Rattle.while_lang.specs.declared.prog.Stmt.{Stmt}
use Rattle.store_trials.specs.Numbers.{expr_numbers, cond_numbers, prog_numbers}

with_nil : (xs ys : List ℕ) → xs ++ ys ≡ (xs ++ []) ++ ys
with_nil xs ys = ap (λ (l : List ℕ). l ++ ys) (sym (append-nil xs))

pub numbers_then : (s : StmtTree) (rest : ProgTree) → prog_numbers (with_stmt s rest) ≡ prog_numbers (with_stmt s empty) ++ prog_numbers rest
numbers_then skip rest = refl
numbers_then abort rest = refl
numbers_then (assert b) rest = with_nil (cond_numbers b) (prog_numbers rest)
numbers_then (act a) rest = refl
numbers_then (assign x e) rest = with_nil (expr_numbers e) (prog_numbers rest)
numbers_then (branch b p q) rest = with_nil (cond_numbers b ++ prog_numbers p ++ prog_numbers q) (prog_numbers rest)
numbers_then (loop b p) rest = with_nil (cond_numbers b ++ prog_numbers p) (prog_numbers rest)

-- another statement of a list
pub numbers_more : (ss : List Stmt) (k : ℕ) (s : Stmt) (old new start : List ℕ) → k < length ss → s ≡ get_or ss k s → new ≡ old ++ prog_numbers (with_stmt (stmt_tree s) empty)
    → old ++ prog_numbers (list_tree (drop k ss)) ≡ start → new ++ prog_numbers (list_tree (drop (k + 1) ss)) ≡ start
numbers_more ss k s old new start lt is added so_far =
    let rest : List ℕ = prog_numbers (list_tree (drop (k + 1) ss)) in
    let next : drop k ss ≡ s ∷ drop (k + 1) ss = drop_more ss k s lt ∙ ap (λ (r : Stmt). r ∷ drop (k + 1) ss) (sym is) in
    ap (λ (l : List ℕ). l ++ rest) added
    ∙ append_assoc old (prog_numbers (with_stmt (stmt_tree s) empty)) rest
    ∙ ap (λ (l : List ℕ). old ++ l) (sym (numbers_then (stmt_tree s) (list_tree (drop (k + 1) ss))))
    ∙ ap (λ (ts : List Stmt). old ++ prog_numbers (list_tree ts)) (sym next) ∙ so_far

-- no statement is left
pub numbers_all : (ss : List Stmt) (k : ℕ) (out start : List ℕ) → length ss ≤ k → out ++ prog_numbers (list_tree (drop k ss)) ≡ start → out ≡ start
numbers_all ss k out start past so_far =
    sym (append-nil out) ∙ ap (λ (ts : List Stmt). out ++ prog_numbers (list_tree ts)) (sym (drop_all k ss past)) ∙ so_far
