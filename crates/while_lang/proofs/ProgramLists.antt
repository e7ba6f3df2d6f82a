-- Programs as lists of statements.
use Rattle.std.proofs.Common.{◌≡◌, ℕ, ◌+◌, ◌<◌, ◌≤◌, Bool, true, false, ◌&&◌, List, [], ◌∷◌, ◌++◌, map, length, take, drop, get_or, refl, sym, ap, ◌∙◌}
use Rattle.std.proofs.lemmas.List.{take_all, map_more, length-map, get_or-map, drop_more}
use Rattle.while_lang.specs.Programs.{ProgTree, StmtTree, skip, abort, assert, act, assign, branch, loop, empty, with_stmt, prog_of, stmts_of, is_concrete_cond, is_concrete}
use Rattle.while_lang.specs.ProgramViews.{stmt_tree, list_tree}
use Rattle.while_lang.specs.declared.prog.Stmt.{Stmt}

stmts_of-with_stmt : (s : StmtTree) (rest : ProgTree) → stmts_of (with_stmt s rest) ≡ s ∷ stmts_of rest
stmts_of-with_stmt skip rest = refl
stmts_of-with_stmt abort rest = refl
stmts_of-with_stmt (assert b) rest = refl
stmts_of-with_stmt (act a) rest = refl
stmts_of-with_stmt (assign x e) rest = refl
stmts_of-with_stmt (branch b p q) rest = refl
stmts_of-with_stmt (loop b p) rest = refl

-- the program of a list of statements has these statements
pub stmts_of-prog_of : (ss : List StmtTree) → stmts_of (prog_of ss) ≡ ss
stmts_of-prog_of [] = refl
stmts_of-prog_of (s ∷ ss) = stmts_of-with_stmt s (prog_of ss) ∙ ap (λ (xs : List StmtTree). s ∷ xs) (stmts_of-prog_of ss)

-- so does the tree of a list of statements of the program
pub listed_stmts : (ss : List Stmt) → stmts_of (list_tree ss) ≡ map stmt_tree ss
listed_stmts ss = stmts_of-prog_of (map stmt_tree ss)

-- ---- copies

pub copied_more : (list new items : List Stmt) (i : ℕ) (s t : Stmt) → map stmt_tree new ≡ map stmt_tree list ++ stmt_tree t ∷ [] → stmt_tree t ≡ stmt_tree s → i < length items → s ≡ get_or items i s →
    map stmt_tree list ≡ map stmt_tree (take i items) → map stmt_tree new ≡ map stmt_tree (take (i + 1) items)
copied_more list new items i s t pushed same lt is before =
    pushed ∙ rw (before, same, is) (sym (map_more stmt_tree items i s lt))

pub copied_all : (list items : List Stmt) (i : ℕ) → length items ≤ i → map stmt_tree list ≡ map stmt_tree (take i items) → list_tree list ≡ list_tree items
copied_all list items i le before = ap prog_of (before ∙ ap (map stmt_tree) (take_all i items le))

-- ---- equal programs

-- equal programs have equal lists of statements
same_stmts : (xs ys : List Stmt) → list_tree xs ≡ list_tree ys → map stmt_tree xs ≡ map stmt_tree ys
same_stmts xs ys e = sym (stmts_of-prog_of (map stmt_tree xs)) ∙ ap stmts_of e ∙ stmts_of-prog_of (map stmt_tree ys)

pub same_length : (xs ys : List Stmt) → list_tree xs ≡ list_tree ys → length xs ≡ length ys
same_length xs ys e = sym (length-map xs stmt_tree) ∙ ap length (same_stmts xs ys e) ∙ length-map ys stmt_tree

pub same_at : (xs ys : List Stmt) (i : ℕ) (x y : Stmt) → i < length xs → i < length ys → x ≡ get_or xs i x → y ≡ get_or ys i y → list_tree xs ≡ list_tree ys → stmt_tree x ≡ stmt_tree y
same_at xs ys i x y lt le is at e =
    ap stmt_tree is ∙ sym (get_or-map stmt_tree xs i x skip lt) ∙ ap (λ (ss : List StmtTree). get_or ss i skip) (same_stmts xs ys e) ∙ get_or-map stmt_tree ys i y skip le ∙ ap stmt_tree (sym at)

-- one step of a loop over two lists
pub same_more : (xs ys : List Stmt) (i : ℕ) (x y : Stmt) → i < length xs → i < length ys → x ≡ get_or xs i x → y ≡ get_or ys i y → stmt_tree x ≡ stmt_tree y →
    map stmt_tree (take i xs) ≡ map stmt_tree (take i ys) → map stmt_tree (take (i + 1) xs) ≡ map stmt_tree (take (i + 1) ys)
same_more xs ys i x y lt le is at same before =
    let here : stmt_tree (get_or xs i x) ≡ stmt_tree (get_or ys i y) = ap stmt_tree (sym is) ∙ same ∙ ap stmt_tree at in
    map_more stmt_tree xs i x lt ∙ (λ k. before k ++ here k ∷ []) ∙ sym (map_more stmt_tree ys i y le)

-- ---- concrete programs

is_concrete-with_stmt : (s : StmtTree) (rest : ProgTree) → is_concrete (with_stmt s rest) ≡ (is_concrete (with_stmt s empty) && is_concrete rest)
is_concrete-with_stmt skip rest = refl
is_concrete-with_stmt abort rest = refl
is_concrete-with_stmt (assert b) rest = by_truth (is_concrete_cond b)
  where
    by_truth : (x : Bool) → (x && is_concrete rest) ≡ ((x && true) && is_concrete rest)
    by_truth true = refl
    by_truth false = refl
is_concrete-with_stmt (act a) rest = refl
is_concrete-with_stmt (assign x e) rest = refl
is_concrete-with_stmt (branch b p q) rest = by_truth (is_concrete_cond b && (is_concrete p && is_concrete q))
  where
    by_truth : (x : Bool) → (x && is_concrete rest) ≡ ((x && true) && is_concrete rest)
    by_truth true = refl
    by_truth false = refl
is_concrete-with_stmt (loop b p) rest = by_truth (is_concrete_cond b && is_concrete p)
  where
    by_truth : (x : Bool) → (x && is_concrete rest) ≡ ((x && true) && is_concrete rest)
    by_truth true = refl
    by_truth false = refl

module _ (items : List Stmt) (i : ℕ) (x : Stmt) (lt : i < length items) (is : x ≡ get_or items i x) where
  abbrev rest : ProgTree
  rest = list_tree (drop (i + 1) items)

  -- the remaining statements are the first one and the others
  pub left : list_tree (drop i items) ≡ with_stmt (stmt_tree x) (list_tree (drop (i + 1) items))
  left = ap list_tree (drop_more items i x lt ∙ ap (λ (y : Stmt). y ∷ drop (i + 1) items) (sym is))

  -- after a concrete statement, the others decide
  pub concrete_more : is_concrete (with_stmt (stmt_tree x) empty) ≡ true → is_concrete (list_tree (drop (i + 1) items)) ≡ is_concrete (list_tree (drop i items))
  concrete_more h = sym (ap is_concrete left ∙ is_concrete-with_stmt (stmt_tree x) rest ∙ ap (λ (b : Bool). b && is_concrete rest) h)
