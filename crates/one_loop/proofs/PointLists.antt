-- The points of programs, statement by statement.
use Rattle.std.proofs.Common.{◌≡◌, ℕ, ◌+◌, ◌-◌, ◌<◌, ◌≤◌, List, [], ◌∷◌, ◌++◌, length, map, drop, set, get_or, refl, sym, ap, ◌∙◌, append_assoc, append-nil, arith}
use Rattle.std.proofs.lemmas.List.{length-append, length-map, map-append, set_at, drop_more, drop_all, length_push}
use Rattle.kat_model.specs.Expressions.{CondTree}
use Rattle.while_lang.specs.Programs.{ProgTree, empty, skip_then, abort_then, assert_then, act_then, assign_then, branch_then, loop_then, StmtTree, skip, abort, assert, act, assign, branch, loop, with_stmt, statements}
use Rattle.while_lang.specs.ProgramViews.{stmt_tree, list_tree}
use Rattle.while_lang.specs.declared.prog.Stmt.{Stmt}
use Rattle.one_loop.specs.Working.Machine.{Point, chooses, points_of, start_of, stmt_points}
use Rattle.one_loop.specs.Working.Blocks.{block_of}

-- the number of points is the number of statements
pub length_points : (p : ProgTree) (before next : ℕ) → length (points_of p before next) ≡ statements p
unfolding points_of
length_points empty before next = refl
length_points (skip_then rest) before next = length_push (points_of rest before next) _ ∙ ap (λ n. n + 1) (length_points rest before next)
length_points (abort_then rest) before next = length_push (points_of rest before next) _ ∙ ap (λ n. n + 1) (length_points rest before next)
length_points (assert_then b rest) before next = length_push (points_of rest before next) _ ∙ ap (λ n. n + 1) (length_points rest before next)
length_points (act_then a rest) before next = length_push (points_of rest before next) _ ∙ ap (λ n. n + 1) (length_points rest before next)
length_points (assign_then x e rest) before next = length_push (points_of rest before next) _ ∙ ap (λ n. n + 1) (length_points rest before next)
length_points (branch_then b p q rest) before next =
    let f = start_of rest before next in
    let m = before + statements rest + 1 in
    let ps = points_of p m f in
    let qs = points_of q (m + statements p) f in
    let a : length (points_of rest before next) ≡ statements rest = length_points rest before next in
    let b : length ps ≡ statements p = length_points p m f in
    let c : length qs ≡ statements q = length_points q (m + statements p) f in
    let d : length (ps ++ qs) ≡ length ps + length qs = length-append ps qs in
    length-append (points_of rest before next) _ ∙ omega (arith, a, b, c, d)
length_points (loop_then b p rest) before next =
    let m = before + statements rest + 1 in
    let a : length (points_of rest before next) ≡ statements rest = length_points rest before next in
    let b : length (points_of p m m) ≡ statements p = length_points p m m in
    length-append (points_of rest before next) _ ∙ omega (arith, a, b)

-- when no statement is left to count, the total is the number of all statements
pub all_counted : (total i : ℕ) (items : List Stmt) (p : ProgTree) → length items ≤ i → total + statements (list_tree (drop i items)) ≡ statements (list_tree items) → list_tree items ≡ p → total ≡ statements p
all_counted total i items p past whole is =
    let none : statements (list_tree (drop i items)) ≡ 0 = ap (λ (ss : List Stmt). statements (list_tree ss)) (drop_all i items past) in
    omega (arith, none, whole, ap statements is)

-- a statement prepended to others
pub points_with : (s : StmtTree) (rest : ProgTree) (before next : ℕ) →
    points_of (with_stmt s rest) before next ≡ points_of rest before next ++ stmt_points s (before + statements rest) (start_of rest before next)
unfolding points_of
points_with skip rest before next = refl
points_with abort rest before next = refl
points_with (assert b) rest before next = refl
points_with (act a) rest before next = refl
points_with (assign x e) rest before next = refl
points_with (branch b p q) rest before next = refl
points_with (loop b p) rest before next = refl

pub start_with : (s : StmtTree) (rest : ProgTree) (before next : ℕ) → start_of (with_stmt s rest) before next ≡ before + statements rest + 1
unfolding start_of
start_with skip rest before next = refl
start_with abort rest before next = refl
start_with (assert b) rest before next = refl
start_with (act a) rest before next = refl
start_with (assign x e) rest before next = refl
start_with (branch b p q) rest before next = refl
start_with (loop b p) rest before next = refl

pub none_start : (before next : ℕ) → start_of empty before next ≡ next
unfolding start_of
none_start before next = refl

pub none_points : (before next : ℕ) → points_of empty before next ≡ []
unfolding points_of
none_points before next = refl

-- ---- as the list of blocks grows

module _ (v : ℕ) where
  abbrev blocks : ProgTree → ℕ → ℕ → List ProgTree
  blocks p before next = map (block_of v) (points_of p before next)

  -- the number of blocks after the blocks of a program are appended
  pub length_behind : (xs : List ProgTree) (p : ProgTree) (before next : ℕ) → length (xs ++ blocks p before next) ≡ length xs + statements p
  length_behind xs p before next =
      length-append xs (blocks p before next) ∙ ap (λ n. length xs + n) (length-map (points_of p before next) (block_of v) ∙ length_points p before next)

  -- the blocks before any statement is added
  pub none_added : (old : List ProgTree) (items : List Stmt) (i before next : ℕ) → length items ≤ i → old ≡ old ++ blocks (list_tree (drop i items)) before next
  none_added old items i before next past =
      rw (drop_all i items past, none_points before next) (sym (append-nil old))

  pub start_none : (items : List Stmt) (i before next : ℕ) → length items ≤ i → next ≡ start_of (list_tree (drop i items)) before next
  start_none items i before next past = rw (drop_all i items past) (sym (none_start before next))

  -- the statement before the statements added so far
  one_more : (items : List Stmt) (i : ℕ) (s : Stmt) → 0 < i → i ≤ length items → s ≡ get_or items (i - 1) s → list_tree (drop (i - 1) items) ≡ with_stmt (stmt_tree s) (list_tree (drop i items))
  one_more items i s some within is =
      let next : i - 1 + 1 ≡ i = omega (arith, some) in
      ap list_tree (drop_more items (i - 1) s (omega (arith, some, within))) ∙ rw (← is, next) refl

  -- adds a statement before the statements added so far; `len` is the number of blocks so far
  pub added_more : (old now new : List ProgTree) (items : List Stmt) (i : ℕ) (s : Stmt) (before len follow next : ℕ) → before ≡ length old → len ≡ length now →
      0 < i → i ≤ length items → s ≡ get_or items (i - 1) s →
      follow ≡ start_of (list_tree (drop i items)) before next → now ≡ old ++ blocks (list_tree (drop i items)) before next →
      new ≡ now ++ map (block_of v) (stmt_points (stmt_tree s) len follow) → new ≡ old ++ blocks (list_tree (drop (i - 1) items)) before next
  added_more old now new items i s before len follow next size count some within is start had grown =
      let rest = list_tree (drop i items) in
      let n : len ≡ before + statements rest = count ∙ ap length had ∙ length_behind old rest before next ∙ ap (λ k. k + statements rest) (sym size) in
      let all : blocks (with_stmt (stmt_tree s) rest) before next ≡ blocks rest before next ++ map (block_of v) (stmt_points (stmt_tree s) (before + statements rest) (start_of rest before next)) =
      ap (map (block_of v)) (points_with (stmt_tree s) rest before next) ∙ map-append (block_of v) (points_of rest before next) _ in
      grown ∙ rw (n, start, had, one_more items i s some within is, all) (append_assoc old _ _)

  pub start_more : (old now : List ProgTree) (items : List Stmt) (i : ℕ) (s : Stmt) (before len next number : ℕ) → before ≡ length old → len ≡ length now →
      0 < i → i ≤ length items → s ≡ get_or items (i - 1) s →
      now ≡ old ++ blocks (list_tree (drop i items)) before next → number ≡ len + 1 → number ≡ start_of (list_tree (drop (i - 1) items)) before next
  start_more old now items i s before len next number size count some within is had given =
      let rest = list_tree (drop i items) in
      let n : len ≡ before + statements rest = count ∙ ap length had ∙ length_behind old rest before next ∙ ap (λ k. k + statements rest) (sym size) in
      given ∙ ap (λ k. k + 1) n ∙ sym (start_with (stmt_tree s) rest before next) ∙ ap (λ p. start_of p before next) (sym (one_more items i s some within is))

  -- the block of a statement itself is filled in after the blocks of its body are added
  pub loop_added : (old placed grown : List ProgTree) (b : CondTree) (p : ProgTree) (before own len number inside next : ℕ) (block : ProgTree) →
      before ≡ length old → own ≡ before → len ≡ length placed →
      placed ≡ old ++ empty ∷ [] → number ≡ before + 1 → inside ≡ start_of p len number → grown ≡ placed ++ blocks p len number →
      block ≡ block_of v (chooses b inside next) →
      set grown own block ≡ old ++ map (block_of v) (stmt_points (loop b p) before next)
  loop_added old placed grown b p before own len number inside next block size here count place given start more is =
      let n : len ≡ before + 1 = count ∙ ap length place ∙ length_push old empty ∙ ap (λ k. k + 1) (sym size) in
      let a : grown ≡ old ++ empty ∷ blocks p (before + 1) (before + 1) = more ∙ rw (n, given, place) (append_assoc old (empty ∷ []) (blocks p (before + 1) (before + 1))) in
      rw (a, here, is, start, n, given) (set_at old empty (blocks p (before + 1) (before + 1)) _ before (sym size))

  pub branch_added : (old placed one grown : List ProgTree) (b : CondTree) (p q : ProgTree) (before own len more met unmet next : ℕ) (block : ProgTree) →
      before ≡ length old → own ≡ before → len ≡ length placed → more ≡ length one →
      placed ≡ old ++ empty ∷ [] → met ≡ start_of p len next → one ≡ placed ++ blocks p len next →
      unmet ≡ start_of q more next → grown ≡ one ++ blocks q more next →
      block ≡ block_of v (chooses b met unmet) →
      set grown own block ≡ old ++ map (block_of v) (stmt_points (branch b p q) before next)
  branch_added old placed one grown b p q before own len more met unmet next block size here count counted place first first_more second second_more is =
      let n : len ≡ before + 1 = count ∙ ap length place ∙ length_push old empty ∙ ap (λ k. k + 1) (sym size) in
      let k : more ≡ before + 1 + statements p = counted ∙ ap length first_more ∙ length_behind placed p len next ∙ ap (λ j. j + statements p) (sym count ∙ n) in
      let ps = blocks p (before + 1) next in
      let qs = blocks q (before + 1 + statements p) next in
      let a : one ≡ old ++ empty ∷ ps = first_more ∙ rw (n, place) (append_assoc old (empty ∷ []) ps) in
      let c : grown ≡ old ++ empty ∷ (ps ++ qs) = second_more ∙ rw (k, a) (append_assoc old (empty ∷ ps) qs) in
      let both : map (block_of v) (points_of p (before + 1) next ++ points_of q (before + 1 + statements p) next) ≡ ps ++ qs = map-append (block_of v) (points_of p (before + 1) next) _ in
      rw (c, here, is, first, second, n, k, both) (set_at old empty (ps ++ qs) _ before (sym size))
