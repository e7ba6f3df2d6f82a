-- Which steps are possible on a list of statements, by the first statements of the list.
use Rattle.std.proofs.Common.{◌≡◌, ◌<◌, ◌≤◌, ◌+◌, ℕ, ⊎_elim, List, [], ◌∷◌, length, map, Option, Some, None, refl, sym, ap, ◌∙◌, subst, arith}
use Rattle.std.proofs.lemmas.Bool.{cases_eq, cases_lt}
use Rattle.kat_model.specs.Expressions.{ExprTree, CondTree, always, negation}
use Rattle.while_lang.specs.Files.{FileParts}
use Rattle.while_lang.specs.Programs.{ProgTree, empty, branch_then, loop_then, with_stmt, StmtTree, skip, abort, assert, act, assign, branch, loop, prog_of, stmts_of}
use Rattle.while_lang.specs.ProgramViews.{stmt_tree}
use Rattle.while_lang.specs.declared.prog.Stmt.{Stmt}
use Rattle.while_lang.proofs.ProgramLists.{stmts_of-prog_of}
use Rattle.optimiser_steps.specs.Validity.{IsValid, HoldsAlways, HoldsNever}
use Rattle.optimiser_steps.specs.Statements.{single}
use Rattle.optimiser_steps.specs.Steps.{Step}
use Rattle.optimiser_steps.specs.Working.Found.{NoStepFrom, IsLeastFrom, FindsLeast, EndAlike}
use Rattle.optimiser_steps.specs.declared.rewriting.Made.{Made}

module _ (f : FileParts) (ss : List StmtTree) where
  -- no step has a number in an empty range; a range without a step can be extended by a number without one
  pub none_yet : (low : ℕ) → NoStepFrom f ss low low
  none_yet low n ts lo hi step = absurd (omega arith)

  pub none_more : (low k : ℕ) → NoStepFrom f ss low k → ((ts : List StmtTree) → Step f k ss ts → ⊥) → NoStepFrom f ss low (k + 1)
  none_more low k none here n ts lo hi step =
      ⊎_elim {C = ⊥} (λ e. here ts (subst (λ x. Step f x ss ts) e step)) (λ d. none n ts lo (omega arith) step) (cases_eq n k)

  -- if no smaller number has a step, the least step of the greater numbers is the least
  pub finds_after : (low mid high : ℕ) (r : Option Made) → low ≤ mid → NoStepFrom f ss low mid → FindsLeast f ss mid high r → FindsLeast f ss low high r
  finds_after low mid high None le none found = λ n ts lo hi step. ⊎_elim {C = ⊥} (λ lt. none n ts lo lt step) (λ ge. found n ts ge hi step) (cases_lt n mid)
  finds_after low mid high (Some m) le none found = record {
    above = omega (arith, found.above);
    below = found.below;
    step = found.step;
    least = λ n ts lo lt step. ⊎_elim {C = ⊥} (λ less. none n ts lo less step) (λ ge. found.least n ts ge lt step) (cases_lt n mid);
  }

  -- the least step of a lower range is the least of the whole range
  pub finds_before : (low mid high : ℕ) (m : Made) → mid ≤ high → IsLeastFrom f ss low mid m → IsLeastFrom f ss low high m
  finds_before low mid high m le found = record { above = found.above; below = omega (arith, found.below); step = found.step; least = found.least }

-- a step without a smaller possible step is the least
pub is_least : (f : FileParts) (ss : List StmtTree) (low high n : ℕ) (m : Made) → m.step ≡ n → low ≤ n → n < high → Step f n ss (map stmt_tree m.list.items) → NoStepFrom f ss low n → IsLeastFrom f ss low high m
is_least f ss low high n m is lo hi step least = record {
  above = omega (arith, is);
  below = omega (arith, is);
  step = subst (λ k. Step f k ss (map stmt_tree m.list.items)) (sym is) step;
  least = subst (λ k. NoStepFrom f ss low k) (sym is) least;
}

-- ---- one statement

module _ (f : FileParts) (rest : List StmtTree) where
  pub none_at_act : (a : ℕ) → NoStepFrom f (act a ∷ rest) 1 9
  none_at_act a =
      let ss = act a ∷ rest in
      none_more f ss 1 8 (none_more f ss 1 7 (none_more f ss 1 6 (none_more f ss 1 5 (none_more f ss 1 4 (none_more f ss 1 3 (none_more f ss 1 2 (none_more f ss 1 1 (none_yet f ss 1)
      (λ ts s. s)) (λ ts s. s)) (λ ts s. s)) (λ ts s. s)) (λ ts s. s)) (λ ts s. s)) (λ ts s. s)) (λ ts s. s)

  pub none_at_assign : (x : ℕ) (e : ExprTree) → NoStepFrom f (assign x e ∷ rest) 1 9
  none_at_assign x e =
      let ss = assign x e ∷ rest in
      none_more f ss 1 8 (none_more f ss 1 7 (none_more f ss 1 6 (none_more f ss 1 5 (none_more f ss 1 4 (none_more f ss 1 3 (none_more f ss 1 2 (none_more f ss 1 1 (none_yet f ss 1)
      (λ ts s. s)) (λ ts s. s)) (λ ts s. s)) (λ ts s. s)) (λ ts s. s)) (λ ts s. s)) (λ ts s. s)) (λ ts s. s)

  pub none_at_last_abort : NoStepFrom f (abort ∷ []) 1 9
  none_at_last_abort =
      let ss = abort ∷ [] in
      none_more f ss 1 8 (none_more f ss 1 7 (none_more f ss 1 6 (none_more f ss 1 5 (none_more f ss 1 4 (none_more f ss 1 3 (none_more f ss 1 2 (none_more f ss 1 1 (none_yet f ss 1)
      (λ ts s. s)) (λ ts s. s)) (λ ts s. s)) (λ ts s. s)) (λ ts s. s)) (λ ts s. s)) (λ ts s. s)) (λ ts s. s)

  pub none_below_abort : NoStepFrom f (abort ∷ rest) 1 2
  none_below_abort = none_more f (abort ∷ rest) 1 1 (none_yet f (abort ∷ rest) 1) (λ ts s. s)

  -- at an `assert`
  module _ (b : CondTree) where
    abbrev Asserts : List StmtTree
    Asserts = assert b ∷ rest

    pub none_below_assert : NoStepFrom f (assert b ∷ rest) 1 3
    none_below_assert = none_more f Asserts 1 2 (none_more f Asserts 1 1 (none_yet f Asserts 1) (λ ts s. s)) (λ ts s. s)

    pub none_at_assert : (HoldsAlways f b → ⊥) → NoStepFrom f (assert b ∷ rest) 1 9
    none_at_assert unsure =
        none_more f Asserts 1 8 (none_more f Asserts 1 7 (none_more f Asserts 1 6 (none_more f Asserts 1 5 (none_more f Asserts 1 4 (none_more f Asserts 1 3 none_below_assert
        (λ ts s. unsure s.0)) (λ ts s. s)) (λ ts s. s)) (λ ts s. s)) (λ ts s. s)) (λ ts s. s)

  -- at an `if`
  module _ (b : CondTree) (p q : ProgTree) where
    abbrev Branches : List StmtTree
    Branches = branch b p q ∷ rest

    pub none_below_first : NoStepFrom f (branch b p q ∷ rest) 1 4
    none_below_first = none_more f Branches 1 3 (none_more f Branches 1 2 (none_more f Branches 1 1 (none_yet f Branches 1) (λ ts s. s)) (λ ts s. s)) (λ ts s. s)

    pub none_below_second : (HoldsAlways f b → ⊥) → NoStepFrom f (branch b p q ∷ rest) 1 5
    none_below_second unsure = none_more f Branches 1 4 none_below_first (λ ts s. unsure s.0)

    pub none_below_either : (HoldsAlways f b → ⊥) → (HoldsNever f b → ⊥) → NoStepFrom f (branch b p q ∷ rest) 1 7
    none_below_either unsure possible = none_more f Branches 1 6 (none_more f Branches 1 5 (none_below_second unsure) (λ ts s. possible s.0)) (λ ts s. s)

    pub none_below_shared : (HoldsAlways f b → ⊥) → (HoldsNever f b → ⊥) → (p ≡ q → ⊥) → NoStepFrom f (branch b p q ∷ rest) 1 8
    none_below_shared unsure possible differ = none_more f Branches 1 7 (none_below_either unsure possible) (λ ts s. differ s.0)

    pub none_shared : ((ps qs : List StmtTree) (r : StmtTree) → EndAlike p q ps qs r → ⊥) → NoStepFrom f (branch b p q ∷ rest) 8 9
    none_shared differ = none_more f Branches 8 8 (none_yet f Branches 8) (λ ts s. differ s.0 s.1 s.2 (s.3, s.4))

  -- at a `while`
  module _ (b : CondTree) (p : ProgTree) where
    abbrev Loops : List StmtTree
    Loops = loop b p ∷ rest

    pub none_below_loop : NoStepFrom f (loop b p ∷ rest) 1 6
    none_below_loop =
        none_more f Loops 1 5 (none_more f Loops 1 4 (none_more f Loops 1 3 (none_more f Loops 1 2 (none_more f Loops 1 1 (none_yet f Loops 1)
        (λ ts s. s)) (λ ts s. s)) (λ ts s. s)) (λ ts s. s)) (λ ts s. s)

    pub none_at_loop : (HoldsNever f b → ⊥) → NoStepFrom f (loop b p ∷ rest) 1 9
    none_at_loop possible = none_more f Loops 1 8 (none_more f Loops 1 7 (none_more f Loops 1 6 none_below_loop (λ ts s. possible s.0)) (λ ts s. s)) (λ ts s. s)

-- ---- two statements

module _ (f : FileParts) (s : StmtTree) where
  pub none_after_last : NoStepFrom f (s ∷ []) 9 11
  none_after_last = none_more f (s ∷ []) 9 10 (none_more f (s ∷ []) 9 9 (none_yet f (s ∷ []) 9) (λ ts x. x)) (λ ts x. x)

  module _ (rest : List StmtTree) where
    pub none_before_skip : NoStepFrom f (s ∷ skip ∷ rest) 9 11
    none_before_skip = none_more f (s ∷ skip ∷ rest) 9 10 (none_more f (s ∷ skip ∷ rest) 9 9 (none_yet f (s ∷ skip ∷ rest) 9) (λ ts x. x)) (λ ts x. x)

    pub none_before_abort : NoStepFrom f (s ∷ abort ∷ rest) 9 11
    none_before_abort = none_more f (s ∷ abort ∷ rest) 9 10 (none_more f (s ∷ abort ∷ rest) 9 9 (none_yet f (s ∷ abort ∷ rest) 9) (λ ts x. x)) (λ ts x. x)

    pub none_before_assert : (b : CondTree) → NoStepFrom f (s ∷ assert b ∷ rest) 9 11
    none_before_assert b = none_more f (s ∷ assert b ∷ rest) 9 10 (none_more f (s ∷ assert b ∷ rest) 9 9 (none_yet f (s ∷ assert b ∷ rest) 9) (λ ts x. x)) (λ ts x. x)

    pub none_before_act : (a : ℕ) → NoStepFrom f (s ∷ act a ∷ rest) 9 11
    none_before_act a = none_more f (s ∷ act a ∷ rest) 9 10 (none_more f (s ∷ act a ∷ rest) 9 9 (none_yet f (s ∷ act a ∷ rest) 9) (λ ts x. x)) (λ ts x. x)

    pub none_before_assign : (x : ℕ) (e : ExprTree) → NoStepFrom f (s ∷ assign x e ∷ rest) 9 11
    none_before_assign x e = none_more f (s ∷ assign x e ∷ rest) 9 10 (none_more f (s ∷ assign x e ∷ rest) 9 9 (none_yet f (s ∷ assign x e ∷ rest) 9) (λ ts y. y)) (λ ts y. y)

    module _ (c : CondTree) (p q : ProgTree) where
      pub none_below_ten : (IsValid f always (single s) c → ⊥) → NoStepFrom f (s ∷ branch c p q ∷ rest) 9 10
      none_below_ten unsure = none_more f (s ∷ branch c p q ∷ rest) 9 9 (none_yet f (s ∷ branch c p q ∷ rest) 9) (λ ts x. unsure x.0)

      pub none_before_if : (IsValid f always (single s) c → ⊥) → (IsValid f always (single s) (negation c) → ⊥) → NoStepFrom f (s ∷ branch c p q ∷ rest) 9 11
      none_before_if unsure possible = none_more f (s ∷ branch c p q ∷ rest) 9 10 (none_below_ten unsure) (λ ts x. possible x.0)

    module _ (c : CondTree) (p : ProgTree) where
      pub none_below_left_loop : NoStepFrom f (s ∷ loop c p ∷ rest) 9 10
      none_below_left_loop = none_more f (s ∷ loop c p ∷ rest) 9 9 (none_yet f (s ∷ loop c p ∷ rest) 9) (λ ts x. x)

      pub none_before_while : (IsValid f always (single s) (negation c) → ⊥) → NoStepFrom f (s ∷ loop c p ∷ rest) 9 11
      none_before_while possible = none_more f (s ∷ loop c p ∷ rest) 9 10 none_below_left_loop (λ ts x. possible x.0)

-- a list that begins with a statement, by what this statement is
pub begins_with : (all later : List StmtTree) (next plain : Stmt) → all ≡ stmt_tree next ∷ later → next ≡ plain → all ≡ stmt_tree plain ∷ later
begins_with all later next plain split is = split ∙ ap (λ (x : Stmt). stmt_tree x ∷ later) is

pub none_before_next : (f : FileParts) (s : StmtTree) (all later : List StmtTree) (next plain : Stmt) → all ≡ stmt_tree next ∷ later → next ≡ plain → NoStepFrom f (s ∷ stmt_tree plain ∷ later) 9 11 → NoStepFrom f (s ∷ all) 9 11
none_before_next f s all later next plain split is none = subst (λ (l : List StmtTree). NoStepFrom f (s ∷ l) 9 11) (sym (begins_with all later next plain split is)) none

-- ---- loops

-- the statement is not a loop
abbrev pub IsNoLoop : StmtTree → Type 0
IsNoLoop (loop b p) = ⊥
IsNoLoop s = Unit {0}

pub no_loop_at : (s t : Stmt) → s ≡ t → IsNoLoop (stmt_tree t) → IsNoLoop (stmt_tree s)
no_loop_at s t e is = subst (λ (x : Stmt). IsNoLoop (stmt_tree x)) (sym e) is

-- the program is a single statement, an `if` or a loop
abbrev pub IsNested : ProgTree → Type 0
IsNested (branch_then c p q empty) = Unit {0}
IsNested (loop_then c p empty) = Unit {0}
IsNested p = ⊥

-- a program that is one statement without a block is not nested
pub unnested_at : (s t : Stmt) (p : ProgTree) → with_stmt (stmt_tree s) empty ≡ p → s ≡ t → (IsNested (with_stmt (stmt_tree t) empty) → ⊥) → IsNested p → ⊥
unnested_at s t p whole is plain nested = plain (subst (λ (x : Stmt). IsNested (with_stmt (stmt_tree x) empty)) is (subst IsNested (sym whole) nested))

module _ (f : FileParts) (rest : List StmtTree) where
  not_unswitched : (s : StmtTree) (ts : List StmtTree) → IsNoLoop s → Step f 11 (s ∷ rest) ts → ⊥
  not_unswitched (loop b p) ts is step = absurd is
  not_unswitched _ ts is step = step

  not_flattened : (s : StmtTree) (ts : List StmtTree) → IsNoLoop s → Step f 12 (s ∷ rest) ts → ⊥
  not_flattened (loop b p) ts is step = absurd is
  not_flattened _ ts is step = step

  pub none_without_loop : (s : StmtTree) → IsNoLoop s → NoStepFrom f (s ∷ rest) 11 13
  none_without_loop s is =
      none_more f (s ∷ rest) 11 12 (none_more f (s ∷ rest) 11 11 (none_yet f (s ∷ rest) 11) (λ ts step. not_unswitched s ts is step)) (λ ts step. not_flattened s ts is step)

  module _ (b : CondTree) where
    unswitched_nested : (p : ProgTree) (ts : List StmtTree) → Step f 11 (loop b p ∷ rest) ts → IsNested p
    unswitched_nested (branch_then c p q empty) ts step = tt
    unswitched_nested (loop_then c p empty) ts step = tt
    unswitched_nested _ ts step = step

    flattened_nested : (p : ProgTree) (ts : List StmtTree) → Step f 12 (loop b p ∷ rest) ts → IsNested p
    flattened_nested (branch_then c p q empty) ts step = tt
    flattened_nested (loop_then c p empty) ts step = tt
    flattened_nested _ ts step = step

    pub none_unnested : (p : ProgTree) → (IsNested p → ⊥) → NoStepFrom f (loop b p ∷ rest) 11 13
    none_unnested p is =
        none_more f (loop b p ∷ rest) 11 12 (none_more f (loop b p ∷ rest) 11 11 (none_yet f (loop b p ∷ rest) 11) (λ ts step. is (unswitched_nested p ts step)))
        (λ ts step. is (flattened_nested p ts step))

    module _ (c : CondTree) (p q : ProgTree) where
      abbrev OverIf : List StmtTree
      OverIf = loop b (branch_then c p q empty) ∷ rest

      pub none_below_flattened : (IsValid f c p c × IsValid f (negation c) q (negation c) → ⊥) → NoStepFrom f (loop b (branch_then c p q empty) ∷ rest) 11 12
      none_below_flattened changes = none_more f OverIf 11 11 (none_yet f OverIf 11) (λ ts s. changes (s.0, s.1))

      pub none_over_if : (IsValid f c p c × IsValid f (negation c) q (negation c) → ⊥) → (b ≡ c → ⊥) → NoStepFrom f (loop b (branch_then c p q empty) ∷ rest) 11 13
      none_over_if changes differ = none_more f OverIf 11 12 (none_below_flattened changes) (λ ts s. differ s.0)

    module _ (c : CondTree) (p : ProgTree) where
      abbrev OverLoop : List StmtTree
      OverLoop = loop b (loop_then c p empty) ∷ rest

      pub none_below_loops : NoStepFrom f (loop b (loop_then c p empty) ∷ rest) 11 12
      none_below_loops = none_more f OverLoop 11 11 (none_yet f OverLoop 11) (λ ts s. s)

      pub none_over_loop : (b ≡ c → ⊥) → NoStepFrom f (loop b (loop_then c p empty) ∷ rest) 11 13
      none_over_loop differ = none_more f OverLoop 11 12 none_below_loops (λ ts s. differ s.0)

nested_statements : (p : ProgTree) → IsNested p → length (stmts_of p) ≡ 1
nested_statements (branch_then c p q empty) is = refl
nested_statements (loop_then c p empty) is = refl
nested_statements _ is = absurd is

-- a nested program has one statement
pub nested_is_one : (ss : List StmtTree) → IsNested (prog_of ss) → length ss ≡ 1
nested_is_one ss is = sym (ap length (stmts_of-prog_of ss)) ∙ nested_statements (prog_of ss) is
