-- The depths of statements in lists of statements and in blocks.
use Rattle.std.proofs.Common.{◌≡◌, ◌<◌, ◌≤◌, ℕ, List, [], ◌∷◌, length, get_or, ap, arith}
use denote.Param.Weighed.{most, at_most}
use Rattle.kat_model.specs.declared.expression.Cond.{Cond}
use Rattle.while_lang.specs.Programs.{ProgTree}
use Rattle.while_lang.specs.ProgramViews.{list_tree}
use Rattle.while_lang.specs.declared.prog.Stmt.{Stmt}
use Rattle.while_lang.specs.declared.prog.Stmt.TheVariants.{Skip, Abort, Assert, Act, Assign, If, While}
use Rattle.while_lang.specs.declared.prog.Prog.TheDeep.{size-Stmt}

-- a statement is at most as deep as its list
pub stmt_below : (items : List Stmt) (i : ℕ) (s : Stmt) → i < length items → s ≡ get_or items i s → size-Stmt s ≤ most (λ (k : Stmt). size-Stmt k) items
stmt_below items i s lt is =
    let one : size-Stmt (get_or items i s) ≤ most (λ (k : Stmt). size-Stmt k) items = at_most (λ (k : Stmt). size-Stmt k) items i s lt in
    let here : size-Stmt s ≡ size-Stmt (get_or items i s) = ap (λ (k : Stmt). size-Stmt k) is in
    omega (arith, one, here)

-- the statement list of a program is less deep than a loop over the program
stmts_below : (b : Cond) (ss : List Stmt) → most (λ (k : Stmt). size-Stmt k) ss < size-Stmt (While b (list_tree ss))
stmts_below b [] = omega arith
stmts_below b (Skip ∷ ss) = omega (arith, stmts_below b ss)
stmts_below b (Abort ∷ ss) = omega (arith, stmts_below b ss)
stmts_below b (Assert c ∷ ss) = omega (arith, stmts_below b ss)
stmts_below b (Act a ∷ ss) = omega (arith, stmts_below b ss)
stmts_below b (Assign x e ∷ ss) = omega (arith, stmts_below b ss)
stmts_below b (If c p q ∷ ss) = omega (arith, stmts_below b ss)
stmts_below b (While c p ∷ ss) = omega (arith, stmts_below b ss)

list_below : (b : Cond) (items : List Stmt) (p : ProgTree) → list_tree items ≡ p → most (λ (k : Stmt). size-Stmt k) items < size-Stmt (While b p)
list_below b items p view =
    let all : most (λ (k : Stmt). size-Stmt k) items < size-Stmt (While b (list_tree items)) = stmts_below b items in
    let same : size-Stmt (While b (list_tree items)) ≡ size-Stmt (While b p) = ap (λ (k : ProgTree). size-Stmt (While b k)) view in
    omega (arith, all, same)

-- so the statement list of a block is less deep than the statement
pub first_below : (s : Stmt) (b : Cond) (p q : ProgTree) (items : List Stmt) → s ≡ If b p q → list_tree items ≡ p → most (λ (k : Stmt). size-Stmt k) items < size-Stmt s
first_below s b p q items is view =
    let here : size-Stmt s ≡ size-Stmt (If b p q) = ap (λ (k : Stmt). size-Stmt k) is in
    omega (arith, here, list_below b items p view)

pub second_below : (s : Stmt) (b : Cond) (p q : ProgTree) (items : List Stmt) → s ≡ If b p q → list_tree items ≡ q → most (λ (k : Stmt). size-Stmt k) items < size-Stmt s
second_below s b p q items is view =
    let here : size-Stmt s ≡ size-Stmt (If b p q) = ap (λ (k : Stmt). size-Stmt k) is in
    omega (arith, here, list_below b items q view)

pub body_below : (s : Stmt) (b : Cond) (p : ProgTree) (items : List Stmt) → s ≡ While b p → list_tree items ≡ p → most (λ (k : Stmt). size-Stmt k) items < size-Stmt s
body_below s b p items is view =
    let here : size-Stmt s ≡ size-Stmt (While b p) = ap (λ (k : Stmt). size-Stmt k) is in
    omega (arith, here, list_below b items p view)
