-- The first step of a list, as the search returns it.
use Rattle.std.proofs.Common.{◌≡◌, ◌<◌, ◌≤◌, ◌+◌, ℕ, zero, suc, List, [], ◌∷◌, ◌++◌, map, length, take, drop, get_or, Some, None, refl, sym, ap, ◌∙◌, subst, arith}
use Rattle.std.proofs.lemmas.List.{drop_more, drop-map, take-map, length-take}
use Rattle.kat_model.specs.Expressions.{CondTree}
use Rattle.while_lang.specs.Files.{FileParts}
use Rattle.while_lang.specs.Programs.{ProgTree, StmtTree, branch, loop, prog_of}
use Rattle.while_lang.specs.ProgramViews.{stmt_tree, list_tree}
use Rattle.while_lang.specs.declared.prog.Stmt.{Stmt}
use Rattle.optimiser_steps.specs.Statements.{block, with_block, IsStmtInRange, AreStmtsInRange}
use Rattle.optimiser_steps.specs.Steps.{Step}
use Rattle.optimiser_steps.specs.Paths.{NoStep, NoStepBefore, IsFirstStep}
use Rattle.optimiser_steps.proofs.FirstSteps.{first_inside, none_inside, none_in_statement, first_here, none_here}
use Rattle.optimiser_steps.proofs.RangesKept.{drop_in}
use Rattle.optimiser_steps.specs.Working.Found.{NoStepFrom, IsLeastFrom, IsFirst}
use Rattle.optimiser_steps.specs.declared.rewriting.Made.{Made}
use Rattle.optimiser_steps.specs.declared.paths.Found.{Found}
use Rattle.optimiser_steps.proofs.ListedPrograms.{listed}

-- the statement at a position is the head of the suffix from there
pub at_position : (list : List Stmt) (k : ℕ) (s : Stmt) → k < length list → s ≡ get_or list k s → drop k (map stmt_tree list) ≡ stmt_tree s ∷ drop (k + 1) (map stmt_tree list)
at_position list k s lt is =
    drop-map stmt_tree k list
    ∙ ap (map stmt_tree) (drop_more list k s lt)
    ∙ ap (λ (x : Stmt). stmt_tree x ∷ map stmt_tree (drop (k + 1) list)) (sym is)
    ∙ ap (λ (l : List StmtTree). stmt_tree s ∷ l) (sym (drop-map stmt_tree (k + 1) list))

module _ (f : FileParts) where
  -- the suffix from a position is in range, and so is the statement there
  pub rest_in_range : (list tail : List Stmt) (k : ℕ) → tail ≡ drop k list → AreStmtsInRange f (map stmt_tree list) → AreStmtsInRange f (map stmt_tree tail)
  rest_in_range list tail k is h = subst (AreStmtsInRange f) (drop-map stmt_tree k list ∙ ap (map stmt_tree) (sym is)) (drop_in f k (map stmt_tree list) h)

  pub stmt_in_range : (ss rest : List StmtTree) (k : ℕ) (s : StmtTree) → drop k ss ≡ s ∷ rest → AreStmtsInRange f ss → IsStmtInRange f s
  stmt_in_range ss rest k s at h = let left : AreStmtsInRange f (s ∷ rest) = subst (AreStmtsInRange f) at (drop_in f k ss h) in left.0

  -- the value found is the first step
  first_found : (ss : List StmtTree) (m : Found) (path : List ℕ) (n : ℕ) (ts : List StmtTree) → IsFirstStep f ss path n ts → m.step ≡ n → m.path.items ≡ path → map stmt_tree m.list.items ≡ ts → IsFirst f ss m
  first_found ss m path n ts first a b c = rw (a, b, c) first

  module _ (list : List Stmt) (k : ℕ) (none : NoStepBefore f (k ∷ []) (map stmt_tree list)) where
    pub found_at_position : (made : Made) (m : Found) (tail : List Stmt) → k ≤ length list → tail ≡ drop k list → IsLeastFrom f (map stmt_tree tail) 1 13 made → m.step ≡ made.step → m.path.items ≡ length (take k list) ∷ [] →
        map stmt_tree m.list.items ≡ map stmt_tree (take k list) ++ map stmt_tree made.list.items → IsFirst f (map stmt_tree list) m
    found_at_position made m tail le is least a b c =
        let left : map stmt_tree tail ≡ drop k (map stmt_tree list) = ap (map stmt_tree) is ∙ sym (drop-map stmt_tree k list) in
        let step : Step f made.step (drop k (map stmt_tree list)) (map stmt_tree made.list.items) = subst (λ us. Step f made.step us (map stmt_tree made.list.items)) left least.step in
        let size : length (take k list) ≡ k = omega (arith, length-take k list) in
        let lesser : NoStepFrom f (drop k (map stmt_tree list)) 1 made.step = subst (λ us. NoStepFrom f us 1 made.step) left least.least in
        first_found (map stmt_tree list) m (k ∷ []) made.step (take k (map stmt_tree list) ++ map stmt_tree made.list.items)
        (first_here f (map stmt_tree list) k made.step (map stmt_tree made.list.items) none step lesser)
        a
        (b ∙ ap (λ (n : ℕ). n ∷ []) size)
        (c ∙ ap (λ (l : List StmtTree). l ++ map stmt_tree made.list.items) (sym (take-map stmt_tree k list)))

    pub none_at_position : (tail : List Stmt) → tail ≡ drop k list → NoStepFrom f (map stmt_tree tail) 1 13 → NoStepBefore f (k ∷ 0 ∷ []) (map stmt_tree list)
    none_at_position tail is nothing =
        let left : map stmt_tree tail ≡ drop k (map stmt_tree list) = ap (map stmt_tree) is ∙ sym (drop-map stmt_tree k list) in
        none_here f (map stmt_tree list) k none (subst (λ us. NoStepFrom f us 1 13) left nothing)

  module _ (ss : List StmtTree) (k j : ℕ) (s : StmtTree) (rest : List StmtTree) (items : List Stmt) (p : ProgTree) (at : drop k ss ≡ s ∷ rest) (is : block s j ≡ Some p) (view : list_tree items ≡ p)
      (none : NoStepBefore f (k ∷ j ∷ []) ss) where
    pub found_in_block : (inner m : Found) (t : StmtTree) → IsFirst f (map stmt_tree items) inner → m.step ≡ inner.step → m.path.items ≡ k ∷ j ∷ inner.path.items →
        map stmt_tree m.list.items ≡ take k ss ++ t ∷ rest → t ≡ with_block s j (prog_of (map stmt_tree inner.list.items)) → IsFirst f ss m
    found_in_block inner m t first a b c e =
        let ts = map stmt_tree inner.list.items in
        first_found ss m (k ∷ j ∷ inner.path.items) inner.step (take k ss ++ with_block s j (prog_of ts) ∷ rest)
        (first_inside f ss k j s rest p at is none inner.path.items inner.step ts (subst (λ l. IsFirstStep f l inner.path.items inner.step ts) (sym (listed items p view)) first))
        a b (c ∙ ap (λ (x : StmtTree). take k ss ++ x ∷ rest) e)

    pub none_in_block : NoStep f (map stmt_tree items) → NoStepBefore f (k ∷ (j + 1) ∷ []) ss
    none_in_block nothing = none_inside f ss k j s rest p at is none (subst (NoStep f) (sym (listed items p view)) nothing)

  -- the statement with a block replaced
  first_replaced : (s : StmtTree) (b c : CondTree) (p q r new : ProgTree) → s ≡ branch b p q → c ≡ b → r ≡ q → branch c new r ≡ with_block s 0 new
  first_replaced s b c p q r new is d e = sym (ap (λ (x : StmtTree). with_block x 0 new) is ∙ ap (λ (x : CondTree). branch x new q) (sym d) ∙ ap (λ (x : ProgTree). branch c new x) (sym e))

  second_replaced : (s : StmtTree) (b c : CondTree) (p q r new : ProgTree) → s ≡ branch b p q → c ≡ b → r ≡ p → branch c r new ≡ with_block s 1 new
  second_replaced s b c p q r new is d e = sym (ap (λ (x : StmtTree). with_block x 1 new) is ∙ ap (λ (x : CondTree). branch x p new) (sym d) ∙ ap (λ (x : ProgTree). branch c x new) (sym e))

  body_replaced : (s : StmtTree) (b c : CondTree) (p new : ProgTree) → s ≡ loop b p → c ≡ b → loop c new ≡ with_block s 0 new
  body_replaced s b c p new is d = sym (ap (λ (x : StmtTree). with_block x 0 new) is ∙ ap (λ (x : CondTree). loop x new) (sym d))

  module _ (ss : List StmtTree) (k : ℕ) (s : StmtTree) (rest : List StmtTree) (b : CondTree) (p q : ProgTree) (at : drop k ss ≡ s ∷ rest) (is : s ≡ branch b p q) (items : List Stmt) where
    pub found_in_first : list_tree items ≡ p → NoStepBefore f (k ∷ 0 ∷ []) ss → (inner m : Found) (c : CondTree) (r : ProgTree) → IsFirst f (map stmt_tree items) inner → m.step ≡ inner.step →
        m.path.items ≡ k ∷ 0 ∷ inner.path.items → map stmt_tree m.list.items ≡ take k ss ++ branch c (list_tree inner.list.items) r ∷ rest → c ≡ b → r ≡ q → IsFirst f ss m
    found_in_first view none inner m c r first x y z d e =
        let new = list_tree inner.list.items in
        found_in_block ss k 0 s rest items p at (ap (λ (t : StmtTree). block t 0) is) view none inner m (branch c new r) first x y z (first_replaced s b c p q r new is d e)

    pub none_in_first : list_tree items ≡ p → NoStepBefore f (k ∷ 0 ∷ []) ss → NoStep f (map stmt_tree items) → NoStepBefore f (k ∷ 1 ∷ []) ss
    none_in_first view none nothing = none_in_block ss k 0 s rest items p at (ap (λ (t : StmtTree). block t 0) is) view none nothing

    pub found_in_second : list_tree items ≡ q → NoStepBefore f (k ∷ 1 ∷ []) ss → (inner m : Found) (c : CondTree) (r : ProgTree) → IsFirst f (map stmt_tree items) inner → m.step ≡ inner.step →
        m.path.items ≡ k ∷ 1 ∷ inner.path.items → map stmt_tree m.list.items ≡ take k ss ++ branch c r (list_tree inner.list.items) ∷ rest → c ≡ b → r ≡ p → IsFirst f ss m
    found_in_second view none inner m c r first x y z d e =
        let new = list_tree inner.list.items in
        found_in_block ss k 1 s rest items q at (ap (λ (t : StmtTree). block t 1) is) view none inner m (branch c r new) first x y z (second_replaced s b c p q r new is d e)

    pub none_in_second : list_tree items ≡ q → NoStepBefore f (k ∷ 1 ∷ []) ss → NoStep f (map stmt_tree items) → NoStepBefore f (k ∷ 2 ∷ []) ss
    none_in_second view none nothing = none_in_block ss k 1 s rest items q at (ap (λ (t : StmtTree). block t 1) is) view none nothing

  module _ (ss : List StmtTree) (k : ℕ) (s : StmtTree) (rest : List StmtTree) (b : CondTree) (p : ProgTree) (at : drop k ss ≡ s ∷ rest) (is : s ≡ loop b p) (items : List Stmt) (view : list_tree items ≡ p)
      (none : NoStepBefore f (k ∷ 0 ∷ []) ss) where
    pub found_in_body : (inner m : Found) (c : CondTree) → IsFirst f (map stmt_tree items) inner → m.step ≡ inner.step → m.path.items ≡ k ∷ 0 ∷ inner.path.items →
        map stmt_tree m.list.items ≡ take k ss ++ loop c (list_tree inner.list.items) ∷ rest → c ≡ b → IsFirst f ss m
    found_in_body inner m c first x y z d =
        let new = list_tree inner.list.items in
        found_in_block ss k 0 s rest items p at (ap (λ (t : StmtTree). block t 0) is) view none inner m (loop c new) first x y z (body_replaced s b c p new is d)

    pub none_in_body : NoStep f (map stmt_tree items) → NoStepBefore f (k ∷ 1 ∷ []) ss
    none_in_body nothing = none_in_block ss k 0 s rest items p at (ap (λ (t : StmtTree). block t 0) is) view none nothing

  -- an `if` has two blocks, a loop has one
  no_third : (b : CondTree) (p q : ProgTree) (i : ℕ) → 2 ≤ i → block (branch b p q) i ≡ None
  no_third b p q zero le = absurd (omega arith)
  no_third b p q (suc zero) le = absurd (omega arith)
  no_third b p q (suc (suc i)) le = refl

  no_second : (b : CondTree) (p : ProgTree) (i : ℕ) → 1 ≤ i → block (loop b p) i ≡ None
  no_second b p zero le = absurd (omega arith)
  no_second b p (suc i) le = refl

  pub none_in_if : (ss : List StmtTree) (k : ℕ) (s : StmtTree) (rest : List StmtTree) (b : CondTree) (p q : ProgTree) → drop k ss ≡ s ∷ rest → s ≡ branch b p q → NoStepBefore f (k ∷ 2 ∷ []) ss → NoStepBefore f ((k + 1) ∷ []) ss
  none_in_if ss k s rest b p q at is none = none_in_statement f ss k 2 s rest at (λ i le. ap (λ (t : StmtTree). block t i) is ∙ no_third b p q i le) none

  pub none_in_loop : (ss : List StmtTree) (k : ℕ) (s : StmtTree) (rest : List StmtTree) (b : CondTree) (p : ProgTree) → drop k ss ≡ s ∷ rest → s ≡ loop b p → NoStepBefore f (k ∷ 1 ∷ []) ss → NoStepBefore f ((k + 1) ∷ []) ss
  none_in_loop ss k s rest b p at is none = none_in_statement f ss k 1 s rest at (λ i le. ap (λ (t : StmtTree). block t i) is ∙ no_second b p i le) none

  pub no_block_at : (s t : Stmt) → s ≡ t → ((i : ℕ) → block (stmt_tree t) i ≡ None) → (i : ℕ) → block (stmt_tree s) i ≡ None
  no_block_at s t e nothing i = ap (λ (x : Stmt). block (stmt_tree x) i) e ∙ nothing i

  pub none_without_block : (ss : List StmtTree) (k : ℕ) (s : StmtTree) (rest : List StmtTree) → drop k ss ≡ s ∷ rest → ((i : ℕ) → block s i ≡ None) → NoStepBefore f (k ∷ 0 ∷ []) ss → NoStepBefore f ((k + 1) ∷ []) ss
  none_without_block ss k s rest at nothing none = none_in_statement f ss k 0 s rest at (λ i le. nothing i) none
