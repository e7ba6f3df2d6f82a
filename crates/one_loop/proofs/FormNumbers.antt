-- The numbers in the loop over the points of a program are 0, those of the program, and numbers of points.
use Rattle.std.proofs.Common.{◌≡◌, ℕ, ◌+◌, ◌<◌, ◌≤◌, List, [], ◌∷◌, ◌++◌, length, map, take, drop, ◌∙◌, arith}
use Rattle.std.specs.List.{All}
use Rattle.std.proofs.lemmas.List.{length-map, length-take, length-drop}
use Rattle.std.proofs.lemmas.List.Elements.{All-nil, All-cons, All-head, All-append, All-push, All-take, All-drop, All-map}
use Rattle.while_lang.specs.Programs.{ProgTree, empty, skip_then, abort_then, assert_then, act_then, assign_then, branch_then, loop_then, statements}
use Rattle.one_loop.specs.Sizes.{HasNumbersBelow}
use Rattle.one_loop.specs.Working.Machine.{Point, passes, stops, checks, sets, chooses, start_of, points_of}
use Rattle.one_loop.specs.Working.Blocks.{block_of, Chooses, no_block, one_block, two_parts, loop_from}
use Rattle.one_loop.proofs.PointLists.{length_points}

-- a choice compares the counter with numbers of blocks
choice_numbers : (v first : ℕ) (blocks : List ProgTree) (q : ProgTree) → Chooses v first blocks q → (m : ℕ) → first + length blocks ≤ m → All (HasNumbersBelow m) blocks → HasNumbersBelow m q
choice_numbers v _ _ _ (no_block first) m few all = tt
choice_numbers v _ _ _ (one_block first block) m few all = All-head (HasNumbersBelow m) block [] all
choice_numbers v _ _ _ (two_parts first i blocks p r less half c d) m few all =
    let front : length (take i blocks) ≡ i = omega (arith, length-take i blocks, less) in
    let back : length (drop i blocks) + i ≡ length blocks = omega (arith, length-drop i blocks, less) in
    let at : first + i < m = omega (arith, few, less) in
    let a = choice_numbers v first (take i blocks) p c m (omega (arith, front, few, less)) (All-take (HasNumbersBelow m) i blocks all) in
    let b = choice_numbers v (first + i) (drop i blocks) r d m (omega (arith, back, few)) (All-drop (HasNumbersBelow m) i blocks all) in
    ((tt, at), a, b, tt)

-- a program starts at one of its points, or at the point after it
starts_below : (p : ProgTree) (before next m : ℕ) → next < m → before + statements p < m → start_of p before next < m
unfolding start_of
starts_below empty before next m lt few = lt
starts_below (skip_then rest) before next m lt few = omega arith
starts_below (abort_then rest) before next m lt few = omega arith
starts_below (assert_then b rest) before next m lt few = omega arith
starts_below (act_then a rest) before next m lt few = omega arith
starts_below (assign_then x e rest) before next m lt few = omega arith
starts_below (branch_then b p q rest) before next m lt few = omega arith
starts_below (loop_then b p rest) before next m lt few = omega arith

module _ (v m : ℕ) where
  abbrev IsBelow : Point → Type 0
  IsBelow point = HasNumbersBelow m (block_of v point)

  -- the block of a point has the numbers of its statement and of the points that follow
  points_numbers : (p : ProgTree) (before next : ℕ) → next < m → before + statements p < m → HasNumbersBelow m p → All IsBelow (points_of p before next)
  unfolding points_of
  points_numbers empty before next lt few h = All-nil IsBelow
  points_numbers (skip_then rest) before next lt few h =
      let start : start_of rest before next < m = starts_below rest before next m lt (omega arith) in
      All-push IsBelow (points_of rest before next) (passes (start_of rest before next)) (points_numbers rest before next lt (omega arith) h) (tt, start, tt)
  points_numbers (abort_then rest) before next lt few h =
      All-push IsBelow (points_of rest before next) stops (points_numbers rest before next lt (omega arith) h) tt
  points_numbers (assert_then b rest) before next lt few h =
      let start : start_of rest before next < m = starts_below rest before next m lt (omega arith) in
      All-push IsBelow (points_of rest before next) (checks b (start_of rest before next)) (points_numbers rest before next lt (omega arith) h.1) (h.0, (tt, start, tt))
  points_numbers (act_then a rest) before next lt few h =
      All-push IsBelow (points_of rest before next) stops (points_numbers rest before next lt (omega arith) h.1) tt
  points_numbers (assign_then x e rest) before next lt few h =
      let start : start_of rest before next < m = starts_below rest before next m lt (omega arith) in
      All-push IsBelow (points_of rest before next) (sets x e (start_of rest before next)) (points_numbers rest before next lt (omega arith) h.2) (tt, h.1, (tt, start, tt))
  points_numbers (branch_then b p q rest) before next lt few h =
      let f = start_of rest before next in
      let n = before + statements rest + 1 in
      let after : f < m = starts_below rest before next m lt (omega arith) in
      let first : start_of p n f < m = starts_below p n f m after (omega arith) in
      let second : start_of q (n + statements p) f < m = starts_below q (n + statements p) f m after (omega arith) in
      let ps = points_of p n f in
      let qs = points_of q (n + statements p) f in
      let fork = chooses b (start_of p n f) (start_of q (n + statements p) f) in
      let blocks = All-append IsBelow ps qs (points_numbers p n f after (omega arith) h.1) (points_numbers q (n + statements p) f after (omega arith) h.2) in
      All-append IsBelow (points_of rest before next) (fork ∷ (ps ++ qs)) (points_numbers rest before next lt (omega arith) h.3)
      (All-cons IsBelow fork (ps ++ qs) (h.0, (tt, first, tt), (tt, second, tt), tt) blocks)
  points_numbers (loop_then b p rest) before next lt few h =
      let f = start_of rest before next in
      let n = before + statements rest + 1 in
      let after : f < m = starts_below rest before next m lt (omega arith) in
      let again : n < m = omega arith in
      let first : start_of p n n < m = starts_below p n n m again (omega arith) in
      let ps = points_of p n n in
      let fork = chooses b (start_of p n n) f in
      All-append IsBelow (points_of rest before next) (fork ∷ ps) (points_numbers rest before next lt (omega arith) h.2)
      (All-cons IsBelow fork ps (h.0, (tt, first, tt), (tt, after, tt), tt) (points_numbers p n n again (omega arith) h.1))

pub form_numbers : (v : ℕ) (p body : ProgTree) → Chooses v 1 (map (block_of v) (points_of p 0 0)) body → (m : ℕ) → statements p < m → HasNumbersBelow m p → HasNumbersBelow m (loop_from v (start_of p 0 0) body)
form_numbers v p body choice m few h =
    let blocks = map (block_of v) (points_of p 0 0) in
    let count : length blocks ≡ statements p = length-map (points_of p 0 0) (block_of v) ∙ length_points p 0 0 in
    let some : 0 < m = omega (arith, few) in
    let start : start_of p 0 0 < m = starts_below p 0 0 m some (omega (arith, few)) in
    let all = All-map (HasNumbersBelow m) (block_of v) (points_of p 0 0) (points_numbers v m p 0 0 some (omega (arith, few)) h) in
    let inner = choice_numbers v 1 blocks body choice m (omega (arith, count, few)) all in
    (tt, start, ((tt, some), inner, tt))
