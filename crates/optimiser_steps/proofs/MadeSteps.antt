-- The rewritten list is the result of the least step.
use Rattle.std.proofs.Common.{◌≡◌, ◌≤◌, ◌-◌, List, [], ◌∷◌, ◌++◌, length, map, take, drop, get_or, Option, Some, None, refl, sym, ap, ◌∙◌, subst, arith}
use Rattle.std.proofs.lemmas.List.{length-map, take_rest}
use Rattle.kat_model.specs.Expressions.{CondTree, always, negation}
use Rattle.while_lang.specs.Files.{FileParts}
use Rattle.while_lang.specs.Programs.{ProgTree, empty, branch_then, loop_then, with_stmt, StmtTree, skip, abort, assert, branch, loop, prog_of, stmts_of}
use Rattle.while_lang.specs.ProgramViews.{stmt_tree, list_tree}
use Rattle.while_lang.specs.declared.prog.Stmt.{Stmt}
use Rattle.optimiser_steps.specs.Validity.{IsValid, HoldsAlways, HoldsNever}
use Rattle.optimiser_steps.specs.Statements.{single}
use Rattle.optimiser_steps.proofs.FirstSteps.{none_at_first, none_at_end}
use Rattle.optimiser_steps.specs.Working.Found.{NoStepFrom, IsLeastFrom, FindsLeast, EndAlike}
use Rattle.optimiser_steps.specs.declared.rewriting.Made.{Made}
use Rattle.optimiser_steps.proofs.LeastSteps.{is_least, finds_after, finds_before, none_at_last_abort, none_below_abort, none_below_assert, none_below_first, none_below_second, none_below_either, none_below_shared, none_below_loop, none_yet, none_below_ten, none_below_left_loop, none_below_flattened, none_below_loops, IsNested, nested_is_one}

-- ---- one statement

-- no step is possible at an `abort` at the end of a list; the step S2 is the least at any other `abort`
pub none_at_abort : (f : FileParts) (items : List Stmt) → length items ≡ 0 → NoStepFrom f (abort ∷ map stmt_tree items) 1 9
none_at_abort f [] e = none_at_last_abort f []
none_at_abort f (s ∷ items) e = absurd (omega arith)

pub abort_made : (f : FileParts) (items : List Stmt) (m : Made) → 1 ≤ length items → m.step ≡ 2 → map stmt_tree m.list.items ≡ abort ∷ map stmt_tree (take (length items - 1) (drop 1 items)) →
    IsLeastFrom f (abort ∷ map stmt_tree items) 1 9 m
abort_made f [] m some is made = absurd (omega arith)
abort_made f (s ∷ items) m some is made =
    let all : map stmt_tree m.list.items ≡ abort ∷ map stmt_tree items = made ∙ ap (λ (l : List Stmt). abort ∷ map stmt_tree l) (take_rest (s ∷ items) 1) in
    is_least f (abort ∷ stmt_tree s ∷ map stmt_tree items) 1 9 2 m is (omega arith) (omega arith) all (none_below_abort f (stmt_tree s ∷ map stmt_tree items))

module _ (f : FileParts) (rest : List StmtTree) (m : Made) where
  pub skip_made : m.step ≡ 1 → map stmt_tree m.list.items ≡ rest → IsLeastFrom f (skip ∷ rest) 1 9 m
  skip_made is made = is_least f (skip ∷ rest) 1 9 1 m is (omega arith) (omega arith) made (none_yet f (skip ∷ rest) 1)

  pub assert_made : (b : CondTree) → m.step ≡ 3 → HoldsAlways f b → map stmt_tree m.list.items ≡ rest → IsLeastFrom f (assert b ∷ rest) 1 9 m
  assert_made b is valid made = is_least f (assert b ∷ rest) 1 9 3 m is (omega arith) (omega arith) (valid, made) (none_below_assert f rest b)

  pub loop_made : (b : CondTree) (p : ProgTree) → m.step ≡ 6 → HoldsNever f b → map stmt_tree m.list.items ≡ rest → IsLeastFrom f (loop b p ∷ rest) 1 9 m
  loop_made b p is valid made = is_least f (loop b p ∷ rest) 1 9 6 m is (omega arith) (omega arith) (valid, made) (none_below_loop f rest b p)

  module _ (b : CondTree) (p q : ProgTree) where
    pub first_made : m.step ≡ 4 → HoldsAlways f b → map stmt_tree m.list.items ≡ stmts_of p ++ rest → IsLeastFrom f (branch b p q ∷ rest) 1 9 m
    first_made is valid made = is_least f (branch b p q ∷ rest) 1 9 4 m is (omega arith) (omega arith) (valid, made) (none_below_first f rest b p q)

    pub second_made : m.step ≡ 5 → (HoldsAlways f b → ⊥) → HoldsNever f b → map stmt_tree m.list.items ≡ stmts_of q ++ rest → IsLeastFrom f (branch b p q ∷ rest) 1 9 m
    second_made is unsure valid made = is_least f (branch b p q ∷ rest) 1 9 5 m is (omega arith) (omega arith) (valid, made) (none_below_second f rest b p q unsure)

    pub either_made : m.step ≡ 7 → (HoldsAlways f b → ⊥) → (HoldsNever f b → ⊥) → p ≡ q → map stmt_tree m.list.items ≡ stmts_of p ++ rest → IsLeastFrom f (branch b p q ∷ rest) 1 9 m
    either_made is unsure possible same made = is_least f (branch b p q ∷ rest) 1 9 7 m is (omega arith) (omega arith) (same, made) (none_below_either f rest b p q unsure possible)

    pub shared_made : (ps qs : List StmtTree) (r : StmtTree) → EndAlike p q ps qs r → m.step ≡ 8 → map stmt_tree m.list.items ≡ branch b (prog_of ps) (prog_of qs) ∷ r ∷ rest → IsLeastFrom f (branch b p q ∷ rest) 8 9 m
    shared_made ps qs r alike is made =
        is_least f (branch b p q ∷ rest) 8 9 8 m is (omega arith) (omega arith) (ps, qs, r, alike.0, alike.1, made) (none_yet f (branch b p q ∷ rest) 8)

-- if no other step is possible at an `if`, the search for a shared last statement finds the least step
pub finds_shared : (f : FileParts) (rest : List StmtTree) (b : CondTree) (p q : ProgTree) (r : Option Made) → (HoldsAlways f b → ⊥) → (HoldsNever f b → ⊥) → (p ≡ q → ⊥) →
    FindsLeast f (branch b p q ∷ rest) 8 9 r → FindsLeast f (branch b p q ∷ rest) 1 9 r
finds_shared f rest b p q r unsure possible differ found =
    finds_after f (branch b p q ∷ rest) 1 8 9 r (omega arith) (none_below_shared f rest b p q unsure possible differ) found

-- ---- two statements

module _ (f : FileParts) (s : StmtTree) (rest : List StmtTree) (m : Made) (c : CondTree) where
  pub first_after_made : (p q : ProgTree) → m.step ≡ 9 → IsValid f always (single s) c → map stmt_tree m.list.items ≡ s ∷ stmts_of p ++ rest → IsLeastFrom f (s ∷ branch c p q ∷ rest) 9 11 m
  first_after_made p q is valid made =
      is_least f (s ∷ branch c p q ∷ rest) 9 11 9 m is (omega arith) (omega arith) (valid, made) (none_yet f (s ∷ branch c p q ∷ rest) 9)

  pub second_after_made : (p q : ProgTree) → m.step ≡ 10 → (IsValid f always (single s) c → ⊥) → IsValid f always (single s) (negation c) → map stmt_tree m.list.items ≡ s ∷ stmts_of q ++ rest →
      IsLeastFrom f (s ∷ branch c p q ∷ rest) 9 11 m
  second_after_made p q is unsure valid made =
      is_least f (s ∷ branch c p q ∷ rest) 9 11 10 m is (omega arith) (omega arith) (valid, made) (none_below_ten f s rest c p q unsure)

  pub loop_after_made : (p : ProgTree) → m.step ≡ 10 → IsValid f always (single s) (negation c) → map stmt_tree m.list.items ≡ s ∷ rest → IsLeastFrom f (s ∷ loop c p ∷ rest) 9 11 m
  loop_after_made p is valid made =
      is_least f (s ∷ loop c p ∷ rest) 9 11 10 m is (omega arith) (omega arith) (valid, made) (none_below_left_loop f s rest c p)

-- ---- loops

module _ (f : FileParts) (rest : List StmtTree) (m : Made) (b c : CondTree) where
  pub unswitched_made : (p q : ProgTree) → m.step ≡ 11 → IsValid f c p c → IsValid f (negation c) q (negation c) →
      map stmt_tree m.list.items ≡ branch c (single (loop b p)) (single (loop b q)) ∷ rest → IsLeastFrom f (loop b (branch_then c p q empty) ∷ rest) 11 13 m
  unswitched_made p q is first second made =
      is_least f (loop b (branch_then c p q empty) ∷ rest) 11 13 11 m is (omega arith) (omega arith) (first, second, made) (none_yet f (loop b (branch_then c p q empty) ∷ rest) 11)

  pub flat_if_made : (p q : ProgTree) → m.step ≡ 12 → (IsValid f c p c × IsValid f (negation c) q (negation c) → ⊥) → b ≡ c → map stmt_tree m.list.items ≡ loop b p ∷ rest →
      IsLeastFrom f (loop b (branch_then c p q empty) ∷ rest) 11 13 m
  flat_if_made p q is changes same made =
      is_least f (loop b (branch_then c p q empty) ∷ rest) 11 13 12 m is (omega arith) (omega arith) (same, made) (none_below_flattened f rest b c p q changes)

  pub flat_loop_made : (p : ProgTree) → m.step ≡ 12 → b ≡ c → map stmt_tree m.list.items ≡ loop b p ∷ rest → IsLeastFrom f (loop b (loop_then c p empty) ∷ rest) 11 13 m
  flat_loop_made p is same made =
      is_least f (loop b (loop_then c p empty) ∷ rest) 11 13 12 m is (omega arith) (omega arith) (same, made) (none_below_loops f rest b c p)

-- a program of one statement
pub one_listed : (items : List Stmt) (s : Stmt) (p : ProgTree) → list_tree items ≡ p → length items ≡ 1 → s ≡ get_or items 0 s → with_stmt (stmt_tree s) empty ≡ p
one_listed [] s p e one is = absurd (omega arith)
one_listed (x ∷ []) s p e one is = rw is e
one_listed (x ∷ y ∷ items) s p e one is = absurd (omega arith)

-- a nested program has one statement
pub not_nested : (items : List Stmt) (p : ProgTree) → list_tree items ≡ p → (length items ≡ 1 → ⊥) → IsNested p → ⊥
not_nested items p e other is = other (sym (length-map items stmt_tree) ∙ nested_is_one (map stmt_tree items) (subst IsNested (sym e) is))

-- no step is possible on an empty list
pub none_of_none : (f : FileParts) → NoStepFrom f [] 1 13
none_of_none f n ts lo hi step = none_at_end f [] 0 (omega arith) (none_at_first f []) n (0 ∷ []) ts (ts, step, refl)

-- ---- all steps

module _ (f : FileParts) (ss : List StmtTree) where
  pub found_alone : (m : Made) → IsLeastFrom f ss 1 9 m → IsLeastFrom f ss 1 13 m
  found_alone m found = finds_before f ss 1 9 13 m (omega arith) found

  pub found_after : (m : Made) → NoStepFrom f ss 1 9 → IsLeastFrom f ss 9 11 m → IsLeastFrom f ss 1 13 m
  found_after m none found = finds_after f ss 1 9 13 (Some m) (omega arith) none (finds_before f ss 9 11 13 m (omega arith) found)

  pub found_nested : (r : Option Made) → NoStepFrom f ss 1 9 → NoStepFrom f ss 9 11 → FindsLeast f ss 11 13 r → FindsLeast f ss 1 13 r
  found_nested r none after found = finds_after f ss 1 11 13 r (omega arith) (finds_after f ss 1 9 11 None (omega arith) none after) found
