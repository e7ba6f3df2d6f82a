-- Programs and lists of their statements.
use Rattle.std.proofs.Common.{◌≡◌, ◌<◌, ◌≤◌, ◌+◌, ◌-◌, ◌↔◌, ℕ, Bool, List, [], ◌∷◌, ◌++◌, map, length, take, drop, get_or, refl, sym, ap, ◌∙◌, subst, append_assoc, arith}
use Rattle.std.proofs.lemmas.List.{take_all, map_more, drop_more, take-map, drop-map, take_rest}
use Rattle.std.specs.Bool.{IsTrue}
use Rattle.kat_model.specs.Expressions.{CondTree}
use Rattle.while_lang.specs.Files.{FileParts}
use Rattle.while_lang.specs.Ranges.{IsProgInRange}
use Rattle.while_lang.specs.Programs.{ProgTree, StmtTree, assert, stmts_of}
use Rattle.while_lang.specs.ProgramViews.{stmt_tree, list_tree}
use Rattle.while_lang.specs.declared.prog.Stmt.{Stmt}
use Rattle.while_lang.proofs.ProgramLists.{stmts_of-prog_of}
use Rattle.optimiser_steps.specs.Statements.{single, AreStmtsInRange}
use Rattle.optimiser_steps.proofs.RangesKept.{stmts_in}

-- ---- copies

-- copying an additional statement
pub pushed_more : (base : List StmtTree) (list new items : List Stmt) (i : ℕ) (s t : Stmt) → map stmt_tree new ≡ map stmt_tree list ++ stmt_tree t ∷ [] → stmt_tree t ≡ stmt_tree s →
    i < length items → s ≡ get_or items i s → map stmt_tree list ≡ base ++ map stmt_tree (take i items) → map stmt_tree new ≡ base ++ map stmt_tree (take (i + 1) items)
pushed_more base list new items i s t pushed same lt is before =
    pushed ∙ rw (before, same) (append_assoc base (map stmt_tree (take i items)) (stmt_tree s ∷ []) ∙ ap (λ (l : List StmtTree). base ++ l) (rw is (sym (map_more stmt_tree items i s lt))))

pub pushed_all : (base : List StmtTree) (list items : List Stmt) (i : ℕ) → length items ≤ i → map stmt_tree list ≡ base ++ map stmt_tree (take i items) → map stmt_tree list ≡ base ++ map stmt_tree items
pushed_all base list items i le before = before ∙ ap (λ (l : List Stmt). base ++ map stmt_tree l) (take_all i items le)

-- replacing the statement at a position
pub with_stmt_at : (list : List Stmt) (i j left : ℕ) (s : Stmt) (whole pushed all : List StmtTree) → length (drop j list) ≤ left → whole ≡ map stmt_tree (take i list) → pushed ≡ whole ++ stmt_tree s ∷ [] →
    all ≡ pushed ++ map stmt_tree (take left (drop j list)) → all ≡ take i (map stmt_tree list) ++ stmt_tree s ∷ drop j (map stmt_tree list)
with_stmt_at list i j left s whole pushed all enough a b c =
    let rest : take left (drop j list) ≡ drop j list = take_all left (drop j list) enough in
    c ∙ rw (rest, b, a) (append_assoc (map stmt_tree (take i list)) (stmt_tree s ∷ []) (map stmt_tree (drop j list)) ∙ rw (take-map stmt_tree i list, drop-map stmt_tree j list) refl)

-- ---- statements of programs

-- the statements of a program are those of its list
pub listed : (items : List Stmt) (p : ProgTree) → list_tree items ≡ p → stmts_of p ≡ map stmt_tree items
listed items p e = ap stmts_of (sym e) ∙ stmts_of-prog_of (map stmt_tree items)

-- the statements of a block are those of the slice taken from it
pub block_listed : (slice items : List Stmt) (p : ProgTree) → slice ≡ items → list_tree items ≡ p → map stmt_tree slice ≡ stmts_of p
block_listed slice items p same view = ap (map stmt_tree) same ∙ sym (listed items p view)

pub block_before : (joined rest : List StmtTree) (slice items : List Stmt) (p : ProgTree) → joined ≡ map stmt_tree slice ++ rest → slice ≡ items → list_tree items ≡ p → joined ≡ stmts_of p ++ rest
block_before joined rest slice items p e same view = e ∙ ap (λ (l : List StmtTree). l ++ rest) (block_listed slice items p same view)

pub block_between : (s : StmtTree) (joined rest : List StmtTree) (slice items : List Stmt) (p : ProgTree) → joined ≡ s ∷ map stmt_tree slice ++ rest → slice ≡ items → list_tree items ≡ p → joined ≡ s ∷ stmts_of p ++ rest
block_between s joined rest slice items p e same view = e ∙ ap (λ (l : List StmtTree). s ∷ l ++ rest) (block_listed slice items p same view)

pub listed_in : (f : FileParts) (items : List Stmt) (p : ProgTree) → list_tree items ≡ p → IsProgInRange f.tests f.actions f.vars p → AreStmtsInRange f (map stmt_tree items)
listed_in f items p e range = subst (AreStmtsInRange f) (listed items p e) (stmts_in f p range)

-- a nonempty list is its first statement followed by the rest
pub first_and_rest : (items : List Stmt) (s : Stmt) → 1 ≤ length items → s ≡ get_or items 0 s → map stmt_tree items ≡ stmt_tree s ∷ map stmt_tree (take (length items - 1) (drop 1 items))
first_and_rest items s some is =
    ap (map stmt_tree) (drop_more items 0 s (omega arith)) ∙ ap (λ (x : Stmt). stmt_tree x ∷ map stmt_tree (drop 1 items)) (sym is)
    ∙ ap (λ (l : List Stmt). stmt_tree s ∷ map stmt_tree l) (sym (take_rest items 1))

pub nothing_left : (items : List Stmt) → length items ≡ 0 → map stmt_tree items ≡ []
nothing_left [] e = refl
nothing_left (s ∷ items) e = absurd (omega arith)

-- programs of one statement are equal only if the statements are
pub single_same : (s t : StmtTree) → single s ≡ single t → s ≡ t
single_same s t e =
    let lists : s ∷ [] ≡ t ∷ [] = sym (stmts_of-prog_of (s ∷ [])) ∙ ap stmts_of e ∙ stmts_of-prog_of (t ∷ []) in
    cc

pub assert_same : (b c : CondTree) → single (assert b) ≡ single (assert c) → b ≡ c
assert_same b c e = cc

-- so comparing two programs of one statement decides whether the copied statements, or conditions, are equal
pub same_statements : (r : Bool) (p q : ProgTree) (x y s t : StmtTree) → IsTrue r ↔ (p ≡ q) → p ≡ single x → q ≡ single y → x ≡ s → y ≡ t → IsTrue r ↔ (s ≡ t)
same_statements r p q x y s t decided first second left right = (
  (λ h. sym left ∙ single_same x y (sym first ∙ decided.0 h ∙ second) ∙ right),
  (λ e. decided.1 (first ∙ ap single (left ∙ e ∙ sym right) ∙ sym second)),
)

pub same_conditions : (r : Bool) (p q : ProgTree) (x y b c : CondTree) → IsTrue r ↔ (p ≡ q) → p ≡ single (assert x) → q ≡ single (assert y) → x ≡ b → y ≡ c → IsTrue r ↔ (b ≡ c)
same_conditions r p q x y b c decided first second left right = (
  (λ h. sym left ∙ assert_same x y (sym first ∙ decided.0 h ∙ second) ∙ right),
  (λ e. decided.1 (first ∙ ap (λ (a : CondTree). single (assert a)) (left ∙ e ∙ sym right) ∙ sym second)),
)
