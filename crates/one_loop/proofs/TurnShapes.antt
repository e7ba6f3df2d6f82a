-- The shape of the loop body of a form: it has no loop, no named test and no named action, and the counter is its only
-- additional variable.
use Rattle.std.proofs.Common.{◌≡◌, ℕ, ◌+◌, ◌<◌, ◌≤◌, List, [], ◌∷◌, ◌++◌, length, map, take, drop, true, false, ◌&&◌, refl, sym, ap, ◌∙◌, arith}
use Rattle.std.specs.List.{All}
use Rattle.std.proofs.lemmas.Bool.{and_parts, and_from, false≢true}
use Rattle.std.proofs.lemmas.List.Elements.{All-nil, All-cons, All-head, All-append, All-push, All-take, All-drop, All-map, All-weaker}
use Rattle.kat_model.specs.Expressions.{ExprTree, number, variable, plus, minus, times, CondTree, always, never, named, compared, negation, both, either}
use Rattle.while_lang.specs.Programs.{ProgTree, empty, skip_then, abort_then, assert_then, act_then, assign_then, branch_then, loop_then, is_concrete_cond, is_concrete, statements}
use Rattle.one_loop.specs.Variables.{ExprHasVarsBelow, CondHasVarsBelow, HasVarsBelow}
use Rattle.one_loop.specs.Loops.{loops}
use Rattle.one_loop.specs.Working.Machine.{Point, passes, stops, checks, sets, chooses, start_of, points_of}
use Rattle.one_loop.specs.Working.Blocks.{jump, block_of, is_below, Chooses, no_block, one_block, two_parts, is_going, loop_from}

-- ---- points

-- the point has no named test, its variables are below v, and the points that follow it are at most m
abbrev pub IsPointWithin : ℕ → ℕ → Point → Type 0
IsPointWithin v m (passes next) = next ≤ m
IsPointWithin v m stops = Unit {0}
IsPointWithin v m (checks b next) = (is_concrete_cond b ≡ true) × CondHasVarsBelow v b × (next ≤ m)
IsPointWithin v m (sets x e next) = (x < v) × ExprHasVarsBelow v e × (next ≤ m)
IsPointWithin v m (chooses b met unmet) = (is_concrete_cond b ≡ true) × CondHasVarsBelow v b × (met ≤ m) × (unmet ≤ m)

pub start_within : (m : ℕ) (p : ProgTree) (before next : ℕ) → next ≤ m → before + statements p ≤ m → start_of p before next ≤ m
unfolding start_of
start_within m empty before next h k = h
start_within m (skip_then rest) before next h k = omega (arith, k)
start_within m (abort_then rest) before next h k = omega (arith, k)
start_within m (assert_then b rest) before next h k = omega (arith, k)
start_within m (act_then a rest) before next h k = omega (arith, k)
start_within m (assign_then x e rest) before next h k = omega (arith, k)
start_within m (branch_then b p q rest) before next h k = omega (arith, k)
start_within m (loop_then b p rest) before next h k = omega (arith, k)

module _ (v m : ℕ) where
  abbrev pub AreWithin : List Point → Type 0
  AreWithin points = All (IsPointWithin v m) points

  pub points_within : (p : ProgTree) (before next : ℕ) → is_concrete p ≡ true → HasVarsBelow v p → next ≤ m → before + statements p ≤ m → AreWithin (points_of p before next)
  unfolding points_of
  points_within empty before next c h n k = All-nil (IsPointWithin v m)
  points_within (skip_then rest) before next c h n k =
      All-push (IsPointWithin v m) _ _ (points_within rest before next c h n (omega (arith, k))) (start_within m rest before next n (omega (arith, k)))
  points_within (abort_then rest) before next c h n k =
      All-push (IsPointWithin v m) _ stops (points_within rest before next c h n (omega (arith, k))) tt
  points_within (assert_then b rest) before next c h n k =
      let parts = and_parts (is_concrete_cond b) (is_concrete rest) c in
      All-push (IsPointWithin v m) _ (checks b (start_of rest before next)) (points_within rest before next parts.1 h.1 n (omega (arith, k)))
      (parts.0, h.0, start_within m rest before next n (omega (arith, k)))
  points_within (act_then a rest) before next c h n k = absurd (false≢true c)
  points_within (assign_then x e rest) before next c h n k =
      All-push (IsPointWithin v m) _ (sets x e (start_of rest before next)) (points_within rest before next c h.2 n (omega (arith, k)))
      (h.0, h.1, start_within m rest before next n (omega (arith, k)))
  points_within (branch_then b p q rest) before next c h n k =
      let parts = and_parts (is_concrete_cond b && (is_concrete p && is_concrete q)) (is_concrete rest) c in
      let guard = and_parts (is_concrete_cond b) (is_concrete p && is_concrete q) parts.0 in
      let inside = and_parts (is_concrete p) (is_concrete q) guard.1 in
      let f = start_of rest before next in
      let own = before + statements rest + 1 in
      let after : f ≤ m = start_within m rest before next n (omega (arith, k)) in
      let first : own + statements p ≤ m = omega (arith, k) in
      let second : own + statements p + statements q ≤ m = omega (arith, k) in
      All-append (IsPointWithin v m) (points_of rest before next) _ (points_within rest before next parts.1 h.3 n (omega (arith, k)))
      (All-cons (IsPointWithin v m) (chooses b (start_of p own f) (start_of q (own + statements p) f)) _
      (guard.0, h.0, start_within m p own f after first, start_within m q (own + statements p) f after second)
      (All-append (IsPointWithin v m) (points_of p own f) (points_of q (own + statements p) f)
      (points_within p own f inside.0 h.1 after first) (points_within q (own + statements p) f inside.1 h.2 after second)))
  points_within (loop_then b p rest) before next c h n k =
      let parts = and_parts (is_concrete_cond b && is_concrete p) (is_concrete rest) c in
      let guard = and_parts (is_concrete_cond b) (is_concrete p) parts.0 in
      let f = start_of rest before next in
      let own = before + statements rest + 1 in
      let after : f ≤ m = start_within m rest before next n (omega (arith, k)) in
      let here : own ≤ m = omega (arith, k) in
      let inside : own + statements p ≤ m = omega (arith, k) in
      All-append (IsPointWithin v m) (points_of rest before next) _ (points_within rest before next parts.1 h.2 n (omega (arith, k)))
      (All-cons (IsPointWithin v m) (chooses b (start_of p own own) f) _
      (guard.0, h.0, start_within m p own own here inside, after)
      (points_within p own own guard.1 h.1 here inside))

-- ---- turns

-- an additional variable
expr_more : (v : ℕ) (e : ExprTree) → ExprHasVarsBelow v e → ExprHasVarsBelow (v + 1) e
expr_more v (number n) h = tt
expr_more v (variable k) h = omega (arith, h)
expr_more v (plus e f) h = (expr_more v e h.0, expr_more v f h.1)
expr_more v (minus e f) h = (expr_more v e h.0, expr_more v f h.1)
expr_more v (times e f) h = (expr_more v e h.0, expr_more v f h.1)

cond_more : (v : ℕ) (b : CondTree) → CondHasVarsBelow v b → CondHasVarsBelow (v + 1) b
cond_more v always h = tt
cond_more v never h = tt
cond_more v (named k) h = tt
cond_more v (compared rel e f) h = (expr_more v e h.0, expr_more v f h.1)
cond_more v (negation b) h = cond_more v b h
cond_more v (both b d) h = (cond_more v b h.0, cond_more v d h.1)
cond_more v (either b d) h = (cond_more v b h.0, cond_more v d h.1)

-- a possible loop body of a form whose counter is v
pub record IsTurn (v : ℕ) (p : ProgTree) : Type 0 where
  pub straight : loops p ≡ 0
  pub concrete : is_concrete p ≡ true
  pub variables : HasVarsBelow (v + 1) p

counter_below : (v : ℕ) → v < v + 1
counter_below v = omega arith

block_is_turn : (v m : ℕ) (point : Point) → IsPointWithin v m point → IsTurn v (block_of v point)
block_is_turn v m (passes next) h = record { straight = refl; concrete = refl; variables = (counter_below v, tt, tt) }
block_is_turn v m stops h = record { straight = refl; concrete = refl; variables = tt }
block_is_turn v m (checks b next) h =
    record { straight = refl; concrete = and_from (is_concrete_cond b) true h.0 refl; variables = (cond_more v b h.1, (counter_below v, tt, tt)) }
block_is_turn v m (sets x e next) h =
    let less : x < v = h.0 in
    record { straight = refl; concrete = refl; variables = (omega (arith, less), expr_more v e h.1, (counter_below v, tt, tt)) }
block_is_turn v m (chooses b met unmet) h =
    record {
      straight = refl;
      concrete = and_from (is_concrete_cond b && true) true (and_from (is_concrete_cond b) true h.0 refl) refl;
      variables = (cond_more v b h.1, (counter_below v, tt, tt), (counter_below v, tt, tt), tt);
    }

pub blocks_are_turns : (v m : ℕ) (points : List Point) → All (IsPointWithin v m) points → All (IsTurn v) (map (block_of v) points)
blocks_are_turns v m points h = All-map (IsTurn v) (block_of v) points (All-weaker (IsPointWithin v m) (λ point. IsTurn v (block_of v point)) (block_is_turn v m) points h)

pub choice_is_turn : (v first : ℕ) (blocks : List ProgTree) (q : ProgTree) → Chooses v first blocks q → All (IsTurn v) blocks → IsTurn v q
choice_is_turn v _ _ _ (no_block first) h = record { straight = refl; concrete = refl; variables = tt }
choice_is_turn v _ _ _ (one_block first block) h = All-head (IsTurn v) block [] h
choice_is_turn v _ _ _ (two_parts first i blocks p r less half c d) h =
    let a = choice_is_turn v first (take i blocks) p c (All-take (IsTurn v) i blocks h) in
    let b = choice_is_turn v (first + i) (drop i blocks) r d (All-drop (IsTurn v) i blocks h) in
    record {
      straight = omega (arith, a.straight, b.straight);
      concrete = and_from (is_concrete p && is_concrete r) true (and_from (is_concrete p) (is_concrete r) a.concrete b.concrete) refl;
      variables = ((counter_below v, tt), a.variables, b.variables, tt);
    }

-- the form has exactly one loop
pub one_loop_only : (v start : ℕ) (body : ProgTree) → IsTurn v body → loops (loop_from v start body) ≡ 1
one_loop_only v start body h = omega (arith, h.straight)

pub form_is_concrete : (v start : ℕ) (body : ProgTree) → IsTurn v body → is_concrete (loop_from v start body) ≡ true
form_is_concrete v start body h = and_from (is_concrete body) true h.concrete refl

pub form_variables : (v start : ℕ) (body : ProgTree) → IsTurn v body → HasVarsBelow (v + 1) (loop_from v start body)
form_variables v start body h = (counter_below v, tt, ((counter_below v, tt), h.variables, tt))
