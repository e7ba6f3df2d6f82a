-- The size of the loop over the points of a program.
use Rattle.std.proofs.Common.{◌≡◌, ℕ, zero, suc, ◌+◌, ◌*◌, ◌^◌, ◌≤◌, max, List, [], ◌∷◌, ◌++◌, length, map, take, drop, refl, sym, ap, ◌∙◌, subst, arith, pow-suc}
use Rattle.std.specs.List.{All}
use Rattle.std.specs.Prelude.{sum_by}
use Rattle.std.proofs.lemmas.List.{length-map, length-take, length-drop}
use Rattle.std.proofs.lemmas.List.Sums.{sum_by-cons, sum_by-append, sum_by_push, sum_by-take-drop}
use Rattle.std.proofs.lemmas.List.Elements.{All-nil, All-cons, All-head, All-append, All-push, All-take, All-drop, All-map}
use Rattle.while_lang.specs.Programs.{ProgTree, empty, skip_then, abort_then, assert_then, act_then, assign_then, branch_then, loop_then, statements}
use Rattle.while_lang.specs.ProgramSizes.{prog_size, largest_in}
use Rattle.while_lang.specs.ProgramPrinting.{stmts_nesting, block_levels}
use Rattle.one_loop.specs.Sizes.{IsSmallForm}
use Rattle.one_loop.specs.Working.Machine.{Point, passes, stops, checks, sets, chooses, start_of, points_of}
use Rattle.one_loop.specs.Working.Blocks.{block_of, Chooses, no_block, one_block, two_parts, is_below, loop_from, IsPointLoop}
use Rattle.one_loop.proofs.PointLists.{length_points}
use Rattle.one_loop.proofs.FormNumbers.{form_numbers}

-- ---- nodes

-- a choice adds a branch of four nodes for each block after the first
choice_nodes : (v first : ℕ) (blocks : List ProgTree) (q : ProgTree) → Chooses v first blocks q → 1 ≤ length blocks → prog_size q + 4 ≤ sum_by prog_size blocks + 4 * length blocks
choice_nodes v _ _ _ (no_block first) some = absurd (omega (arith, some))
choice_nodes v _ _ _ (one_block first block) some = omega arith
choice_nodes v _ _ _ (two_parts first i blocks p r less half c d) some =
    let front : length (take i blocks) ≡ i = omega (arith, length-take i blocks, less) in
    let back : length (drop i blocks) + i ≡ length blocks = omega (arith, length-drop i blocks, less) in
    let a = choice_nodes v first (take i blocks) p c (omega (arith, front, half.0, half.2)) in
    let b = choice_nodes v (first + i) (drop i blocks) r d (omega (arith, back, less)) in
    let all = sum_by-take-drop prog_size blocks i in
    omega (arith, a, b, all, front, back)

choice_size : (v first : ℕ) (blocks : List ProgTree) (q : ProgTree) → Chooses v first blocks q → prog_size q ≤ sum_by prog_size blocks + 4 * length blocks
choice_size v _ _ _ (no_block first) = omega arith
choice_size v _ _ _ (one_block first block) = let c = choice_nodes v first (block ∷ []) block (one_block first block) (omega arith) in omega (arith, c)
choice_size v _ _ _ (two_parts first i blocks p r less half c d) =
    let n = choice_nodes v first blocks (branch_then (is_below v (first + i)) p r empty) (two_parts first i blocks p r less half c d) (omega (arith, half.0)) in
    omega (arith, n)

module _ (v : ℕ) where
  abbrev point_size : Point → ℕ
  point_size point = prog_size (block_of v point)

  -- the block of a point has at most four nodes more than its statement
  points_size : (p : ProgTree) (before next : ℕ) → sum_by point_size (points_of p before next) ≤ prog_size p + 4 * statements p
  unfolding points_of
  points_size empty before next = omega arith
  points_size (skip_then rest) before next =
      omega (arith, points_size rest before next, sum_by_push point_size (points_of rest before next) (passes (start_of rest before next)))
  points_size (abort_then rest) before next = omega (arith, points_size rest before next, sum_by_push point_size (points_of rest before next) stops)
  points_size (assert_then b rest) before next =
      omega (arith, points_size rest before next, sum_by_push point_size (points_of rest before next) (checks b (start_of rest before next)))
  points_size (act_then a rest) before next = omega (arith, points_size rest before next, sum_by_push point_size (points_of rest before next) stops)
  points_size (assign_then x e rest) before next =
      omega (arith, points_size rest before next, sum_by_push point_size (points_of rest before next) (sets x e (start_of rest before next)))
  points_size (branch_then b p q rest) before next =
      let f = start_of rest before next in
      let m = before + statements rest + 1 in
      let ps = points_of p m f in
      let qs = points_of q (m + statements p) f in
      let fork = chooses b (start_of p m f) (start_of q (m + statements p) f) in
      let first = points_size rest before next in
      let second = points_size p m f in
      let third = points_size q (m + statements p) f in
      omega (arith, first, second, third, sum_by-append point_size ps qs, sum_by-cons point_size fork (ps ++ qs), sum_by-append point_size (points_of rest before next) (fork ∷ (ps ++ qs)))
  points_size (loop_then b p rest) before next =
      let m = before + statements rest + 1 in
      let ps = points_of p m m in
      let fork = chooses b (start_of p m m) (start_of rest before next) in
      let first = points_size rest before next in
      let second = points_size p m m in
      omega (arith, first, second, sum_by-cons point_size fork ps, sum_by-append point_size (points_of rest before next) (fork ∷ ps))

sum_by-map : {X Y : Type 0} (f : Y → ℕ) (g : X → Y) (xs : List X) → sum_by f (map g xs) ≡ sum_by (λ x. f (g x)) xs
sum_by-map f g [] = refl
sum_by-map f g (x ∷ xs) = sum_by-cons f (g x) (map g xs) ∙ ap (λ n. f (g x) + n) (sum_by-map f g xs) ∙ sym (sum_by-cons (λ y. f (g y)) x xs)

-- ---- what is below a bound in each block is below it in the choice

-- the nesting of a choice grows by one where the number of blocks doubles
choice_nesting : (v first : ℕ) (blocks : List ProgTree) (q : ProgTree) → Chooses v first blocks q → (m k : ℕ) → length blocks ≤ 2 ^ k → All (λ b. stmts_nesting b ≤ m) blocks → stmts_nesting q ≤ m + k
choice_nesting v _ _ _ (no_block first) m k few all = omega arith
choice_nesting v _ _ _ (one_block first block) m k few all = omega (arith, All-head (λ b. stmts_nesting b ≤ m) block [] all)
choice_nesting v _ _ _ (two_parts first i blocks p r less half c d) m zero few all = absurd (omega (arith, few, half.0))
choice_nesting v _ _ _ (two_parts first i blocks p r less half c d) m (suc k) few all =
    let twice = pow-suc 2 k in
    let front : length (take i blocks) ≤ 2 ^ k = omega (arith, length-take i blocks, twice, few, half.1) in
    let back : length (drop i blocks) ≤ 2 ^ k = omega (arith, length-drop i blocks, twice, few, half.2) in
    let a = choice_nesting v first (take i blocks) p c m k front (All-take (λ b. stmts_nesting b ≤ m) i blocks all) in
    let b = choice_nesting v (first + i) (drop i blocks) r d m k back (All-drop (λ b. stmts_nesting b ≤ m) i blocks all) in
    omega (arith, a, b)

choice_exprs : (v first : ℕ) (blocks : List ProgTree) (q : ProgTree) → Chooses v first blocks q → (m : ℕ) → 1 ≤ m → All (λ b. largest_in b ≤ m) blocks → largest_in q ≤ m
choice_exprs v _ _ _ (no_block first) m one all = omega arith
choice_exprs v _ _ _ (one_block first block) m one all = All-head (λ b. largest_in b ≤ m) block [] all
choice_exprs v _ _ _ (two_parts first i blocks p r less half c d) m one all =
    let a = choice_exprs v first (take i blocks) p c m one (All-take (λ b. largest_in b ≤ m) i blocks all) in
    let b = choice_exprs v (first + i) (drop i blocks) r d m one (All-drop (λ b. largest_in b ≤ m) i blocks all) in
    omega (arith, a, b)

module _ (v : ℕ) where
  abbrev NestsWithin : ℕ → Point → Type 0
  NestsWithin m point = stmts_nesting (block_of v point) ≤ m

  -- no block nests deeper than the program
  points_nesting : (p : ProgTree) (before next m : ℕ) → stmts_nesting p ≤ m → All (NestsWithin m) (points_of p before next)
  unfolding points_of
  points_nesting empty before next m le = All-nil (NestsWithin m)
  points_nesting (skip_then rest) before next m le =
      All-push (NestsWithin m) (points_of rest before next) (passes (start_of rest before next)) (points_nesting rest before next m le) (omega arith)
  points_nesting (abort_then rest) before next m le = All-push (NestsWithin m) (points_of rest before next) stops (points_nesting rest before next m le) (omega arith)
  points_nesting (assert_then b rest) before next m le =
      All-push (NestsWithin m) (points_of rest before next) (checks b (start_of rest before next)) (points_nesting rest before next m (omega arith)) (omega arith)
  points_nesting (act_then a rest) before next m le = All-push (NestsWithin m) (points_of rest before next) stops (points_nesting rest before next m le) (omega arith)
  points_nesting (assign_then x e rest) before next m le =
      All-push (NestsWithin m) (points_of rest before next) (sets x e (start_of rest before next)) (points_nesting rest before next m (omega arith)) (omega arith)
  points_nesting (branch_then b p q rest) before next m le =
      let f = start_of rest before next in
      let n = before + statements rest + 1 in
      let ps = points_of p n f in
      let qs = points_of q (n + statements p) f in
      let fork = chooses b (start_of p n f) (start_of q (n + statements p) f) in
      let blocks = All-append (NestsWithin m) ps qs (points_nesting p n f m (omega arith)) (points_nesting q (n + statements p) f m (omega arith)) in
      All-append (NestsWithin m) (points_of rest before next) (fork ∷ (ps ++ qs)) (points_nesting rest before next m (omega arith))
      (All-cons (NestsWithin m) fork (ps ++ qs) (omega arith) blocks)
  points_nesting (loop_then b p rest) before next m le =
      let n = before + statements rest + 1 in
      let ps = points_of p n n in
      let fork = chooses b (start_of p n n) (start_of rest before next) in
      All-append (NestsWithin m) (points_of rest before next) (fork ∷ ps) (points_nesting rest before next m (omega arith))
      (All-cons (NestsWithin m) fork ps (omega arith) (points_nesting p n n m (omega arith)))

  abbrev HasExprsWithin : ℕ → Point → Type 0
  HasExprsWithin m point = largest_in (block_of v point) ≤ m

  -- no expression of a block is larger than those of the program and a number
  points_exprs : (p : ProgTree) (before next m : ℕ) → 1 ≤ m → largest_in p ≤ m → All (HasExprsWithin m) (points_of p before next)
  unfolding points_of
  points_exprs empty before next m one le = All-nil (HasExprsWithin m)
  points_exprs (skip_then rest) before next m one le =
      All-push (HasExprsWithin m) (points_of rest before next) (passes (start_of rest before next)) (points_exprs rest before next m one le) (omega arith)
  points_exprs (abort_then rest) before next m one le = All-push (HasExprsWithin m) (points_of rest before next) stops (points_exprs rest before next m one le) (omega arith)
  points_exprs (assert_then b rest) before next m one le =
      All-push (HasExprsWithin m) (points_of rest before next) (checks b (start_of rest before next)) (points_exprs rest before next m one (omega arith)) (omega arith)
  points_exprs (act_then a rest) before next m one le = All-push (HasExprsWithin m) (points_of rest before next) stops (points_exprs rest before next m one le) (omega arith)
  points_exprs (assign_then x e rest) before next m one le =
      All-push (HasExprsWithin m) (points_of rest before next) (sets x e (start_of rest before next)) (points_exprs rest before next m one (omega arith)) (omega arith)
  points_exprs (branch_then b p q rest) before next m one le =
      let f = start_of rest before next in
      let n = before + statements rest + 1 in
      let ps = points_of p n f in
      let qs = points_of q (n + statements p) f in
      let fork = chooses b (start_of p n f) (start_of q (n + statements p) f) in
      let blocks = All-append (HasExprsWithin m) ps qs (points_exprs p n f m one (omega arith)) (points_exprs q (n + statements p) f m one (omega arith)) in
      All-append (HasExprsWithin m) (points_of rest before next) (fork ∷ (ps ++ qs)) (points_exprs rest before next m one (omega arith))
      (All-cons (HasExprsWithin m) fork (ps ++ qs) (omega arith) blocks)
  points_exprs (loop_then b p rest) before next m one le =
      let n = before + statements rest + 1 in
      let ps = points_of p n n in
      let fork = chooses b (start_of p n n) (start_of rest before next) in
      All-append (HasExprsWithin m) (points_of rest before next) (fork ∷ ps) (points_exprs rest before next m one (omega arith))
      (All-cons (HasExprsWithin m) fork ps (omega arith) (points_exprs p n n m one (omega arith)))

-- ---- forms

module _ (v : ℕ) (p body : ProgTree) (choice : Chooses v 1 (map (block_of v) (points_of p 0 0)) body) where
  abbrev blocks : List ProgTree
  blocks = map (block_of v) (points_of p 0 0)

  blocks_count : length blocks ≡ statements p
  blocks_count = length-map (points_of p 0 0) (block_of v) ∙ length_points p 0 0

  form_nodes : prog_size (loop_from v (start_of p 0 0) body) ≤ prog_size p + 8 * statements p + 6
  form_nodes = omega (arith, choice_size v 1 blocks body choice, sum_by-map prog_size (block_of v) (points_of p 0 0), points_size v p 0 0, blocks_count)

  form_exprs : largest_in (loop_from v (start_of p 0 0) body) ≤ max (largest_in p) 1
  form_exprs =
      let m = max (largest_in p) 1 in
      let one : 1 ≤ m = omega arith in
      let all = All-map (λ b. largest_in b ≤ m) (block_of v) (points_of p 0 0) (points_exprs v p 0 0 m one (omega arith)) in
      omega (arith, choice_exprs v 1 blocks body choice m one all)

  form_levels : (k : ℕ) → statements p ≤ 2 ^ k → block_levels (loop_from v (start_of p 0 0) body) ≤ block_levels p + k + 1
  form_levels k few =
      let all = All-map (λ b. stmts_nesting b ≤ stmts_nesting p) (block_of v) (points_of p 0 0) (points_nesting v p 0 0 (stmts_nesting p) (omega arith)) in
      omega (arith, choice_nesting v 1 blocks body choice (stmts_nesting p) k (omega (arith, blocks_count, few)) all)

pub small_form : (v : ℕ) (p q : ProgTree) → IsPointLoop v p q → IsSmallForm p q
small_form v p q (body, choice, is) =
    subst (IsSmallForm p) (sym is) (record { nodes = form_nodes v p body choice; exprs = form_exprs v p body choice; levels = form_levels v p body choice; numbers = form_numbers v p body choice })
