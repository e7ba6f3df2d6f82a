-- A turn of the loop of a form is a step of the machine.
use Rattle.std.proofs.Common.{◌≡◌, ℕ, zero, suc, ◌+◌, ◌-◌, ◌<◌, ◌≤◌, ◌↔◌, List, [], ◌∷◌, length, map, take, drop, set, get_or, Bool, true, false, not, nat_eq, nat_lt, if◌then◌else◌, Some, refl, sym, ap, ◌∙◌, subst, arith}
use Rattle.std.specs.List.{All, slice_get}
use Rattle.std.specs.Option.{option_map}
use Rattle.std.proofs.lemmas.Bool.Decides.{nat_tests}
use Rattle.std.proofs.lemmas.List.{length-set, length-map, length-take, length-drop}
use Rattle.std.proofs.lemmas.Option.{same_Some, slice_get-map, slice_get_within, slice_get-get_or, get_or_from_slice_get}
use Rattle.std.proofs.lemmas.List.Elements.{All-get_or}
use Rattle.std.proofs.Math.Nat.{mod-eq_of_lt}
use mathlib.Core.Path.{ap₂}
use Rattle.kat_model.specs.Expressions.{CondTree, number, variable}
use Rattle.kat_model.specs.Stores.{modulus, Store, value, holds}
use Rattle.kat_model.specs.declared.expression.Width.{Width}
use Rattle.while_lang.specs.Programs.{ProgTree, empty, branch_then}
use Rattle.while_lang.specs.Runs.{condition, Chosen, Leaves, Turns, Goes}
use Rattle.one_loop.specs.Forms.{with_counter}
use Rattle.one_loop.specs.Working.Machine.{Point, passes, stops, checks, sets, chooses, Steps, Halts}
use Rattle.one_loop.specs.Working.Blocks.{jump, block_of, is_below, Chooses, no_block, one_block, two_parts, is_going}
use Rattle.one_loop.proofs.Counters.{counter_value, counter_set, point_number, value_kept, holds_kept, set_kept}
use Rattle.one_loop.proofs.TurnShapes.{IsPointWithin}

-- ---- stores of v variables and a counter

module _ (w : Width) (v m : ℕ) (fits : m < modulus w) where
  -- setting the counter to a point
  pub jumped : (s : Store) (c n : ℕ) → length s ≡ v → n ≤ m → set (with_counter s c) v (value w (with_counter s c) (number n)) ≡ with_counter s n
  jumped s c n len le =
      let same : value w (with_counter s c) (number n) ≡ n = mod-eq_of_lt (omega (arith, le, fits)) in
      ap (set (with_counter s c) v) same ∙ counter_set v c n s len

  -- setting a variable, then the counter
  set_and_jumped : (s : Store) (c x a n : ℕ) → length s ≡ v → x < v → n ≤ m → set (set (with_counter s c) x a) v (value w (set (with_counter s c) x a) (number n)) ≡ with_counter (set s x a) n
  set_and_jumped s c x a n len less le =
      let kept : set (with_counter s c) x a ≡ with_counter (set s x a) c = set_kept v c x a s len less in
      ap (λ (u : Store). set u v (value w u (number n))) kept ∙ jumped (set s x a) c n (length-set s x a ∙ len) le

  -- ---- the block of a point

  -- a step of the machine is a run of its block
  pub block_goes : (point : Point) (s : Store) (c k : ℕ) (t : Store) → length s ≡ v → IsPointWithin v m point → Steps w point s k t → Goes w (block_of v point) (with_counter s c) 0 (with_counter t k)
  block_goes (passes next) s c k t len h (e, f) = (refl, rw (e, f) (sym (jumped s c next len h)))
  block_goes stops s c k t len h step = elim step [ ]
  block_goes (checks b next) s c k t len h (holds, e, f) =
      (holds_kept w v c s len b h.1 ∙ holds, (refl, rw (e, f) (sym (jumped s c next len h.2))))
  block_goes (sets x e next) s c k t len h (d, f) =
      let same : value w (with_counter s c) e ≡ value w s e = value_kept w v c s len e h.1 in
      let after = set_and_jumped s c x (value w s e) next len h.0 h.2 in
      (refl, rw (d, f, same) (sym after))
  block_goes (chooses b met unmet) s c k t len h (e, f) = (
    0,
    0,
    with_counter t k,
    subst (λ x. Chosen x (Goes w (jump v met) (with_counter s c) 0 (with_counter t k)) (Goes w (jump v unmet) (with_counter s c) 0 (with_counter t k))) (sym (holds_kept w v c s len b h.1)) (by_truth (holds w s b) refl),
    (refl, refl),
    refl,
  )
    where
      by_truth : (x : Bool) → holds w s b ≡ x → Chosen x (Goes w (jump v met) (with_counter s c) 0 (with_counter t k)) (Goes w (jump v unmet) (with_counter s c) 0 (with_counter t k))
      by_truth true d = (refl, rw (e, f, d) (sym (jumped s c met len h.2)))
      by_truth false d = (refl, rw (e, f, d) (sym (jumped s c unmet len h.3)))

  -- a step of the machine, with the store and the counter after it
  abbrev pub Stepping : Point → Store → Store → Type 0
  Stepping point s u = (k : ℕ) × (t : Store) × Steps w point s k t × (u ≡ with_counter t k) × (k ≤ m) × (length t ≡ v)

  pub block_came : (point : Point) (s : Store) (c i : ℕ) (u : Store) → length s ≡ v → IsPointWithin v m point → Goes w (block_of v point) (with_counter s c) i u → Stepping point s u
  block_came (passes next) s c i u len h (none, f) = (next, s, (refl, refl), f ∙ jumped s c next len h, h, len)
  block_came stops s c i u len h goes = elim goes [ ]
  block_came (checks b next) s c i u len h (holds, (none, f)) =
      (next, s, (sym (holds_kept w v c s len b h.1) ∙ holds, refl, refl), f ∙ jumped s c next len h.2, h.2, len)
  block_came (sets x e next) s c i u len h (none, f) =
      let same : value w (with_counter s c) e ≡ value w s e = value_kept w v c s len e h.1 in
      let after = set_and_jumped s c x (value w s e) next len h.0 h.2 in
      (next, set s x (value w s e), (refl, refl), f ∙ rw (same) after, h.2, length-set s x (value w s e) ∙ len)
  block_came (chooses b met unmet) s c i u len h (j, l, r, chosen, (none, f), e) =
      by_truth (holds w s b) refl (subst (λ x. Chosen x (Goes w (jump v met) (with_counter s c) j r) (Goes w (jump v unmet) (with_counter s c) j r)) (holds_kept w v c s len b h.1) chosen)
    where
      by_truth : (x : Bool) → holds w s b ≡ x → Chosen x (Goes w (jump v met) (with_counter s c) j r) (Goes w (jump v unmet) (with_counter s c) j r) → Stepping (chooses b met unmet) s u
      by_truth true d (zero', g) = (met, s, (ap (λ x. if x then met else unmet) (sym d), refl), f ∙ g ∙ jumped s c met len h.2, h.2, len)
      by_truth false d (zero', g) = (unmet, s, (ap (λ x. if x then met else unmet) (sym d), refl), f ∙ g ∙ jumped s c unmet len h.3, h.3, len)

-- ---- the choice

-- the element at a position of a prefix of a list, and of the rest
get_take : {X : Type 0} (xs : List X) (j i : ℕ) → i < j → slice_get (take j xs) i ≡ slice_get xs i
get_take xs zero i less = absurd (omega (arith, less))
get_take [] (suc j) i less = refl
get_take (x ∷ xs) (suc j) zero less = refl
get_take (x ∷ xs) (suc j) (suc i) less = get_take xs j i (omega (arith, less))

get_drop : {X : Type 0} (xs : List X) (j i : ℕ) → slice_get (drop j xs) i ≡ slice_get xs (j + i)
get_drop xs zero i = ap (slice_get xs) (omega arith)
get_drop [] (suc j) i = refl
get_drop (x ∷ xs) (suc j) i =
    let next : suc j + i ≡ suc (j + i) = omega arith in
    get_drop xs j i ∙ ap (slice_get (x ∷ xs)) (sym next)

module _ (w : Width) where
  -- a branch with no statement after it runs as the part that its condition chooses
  branch_true : (b : CondTree) (p q : ProgTree) (s : Store) → holds w s b ≡ true → (k : ℕ) (u : Store) → Goes w (branch_then b p q empty) s k u ↔ Goes w p s k u
  branch_true b p q s h k u = (there, back)
    where
      there : Goes w (branch_then b p q empty) s k u → Goes w p s k u
      there (i, j, r, chosen, (none, stays), e) =
          let goes : Goes w p s i r = subst (λ x. Chosen x (Goes w p s i r) (Goes w q s i r)) h chosen in
          let count : i ≡ k = omega (arith, none, e) in
          subst (λ n. Goes w p s n u) count (subst (λ v. Goes w p s i v) (sym stays) goes)

      back : Goes w p s k u → Goes w (branch_then b p q empty) s k u
      back goes = (k, 0, u, subst (λ x. Chosen x (Goes w p s k u) (Goes w q s k u)) (sym h) goes, (refl, refl), omega arith)

  branch_false : (b : CondTree) (p q : ProgTree) (s : Store) → holds w s b ≡ false → (k : ℕ) (u : Store) → Goes w (branch_then b p q empty) s k u ↔ Goes w q s k u
  branch_false b p q s h k u = (there, back)
    where
      there : Goes w (branch_then b p q empty) s k u → Goes w q s k u
      there (i, j, r, chosen, (none, stays), e) =
          let goes : Goes w q s i r = subst (λ x. Chosen x (Goes w p s i r) (Goes w q s i r)) h chosen in
          let count : i ≡ k = omega (arith, none, e) in
          subst (λ n. Goes w q s n u) count (subst (λ v. Goes w q s i v) (sym stays) goes)

      back : Goes w q s k u → Goes w (branch_then b p q empty) s k u
      back goes = (k, 0, u, subst (λ x. Chosen x (Goes w p s k u) (Goes w q s k u)) (sym h) goes, (refl, refl), omega arith)

module _ (w : Width) (v m : ℕ) (fits : m < modulus w) where
  -- the test of a choice compares the counter with a number
  below_tested : (s : Store) (c n : ℕ) → length s ≡ v → n ≤ m → holds w (with_counter s c) (is_below v n) ≡ nat_lt c n
  below_tested s c n len le = ap₂ nat_lt (counter_value w v c s len) (point_number w (with_counter s c) n (omega (arith, le, fits)))

  -- a choice runs as the block that the counter chooses
  choice_runs : (first : ℕ) (blocks : List ProgTree) (q : ProgTree) → Chooses v first blocks q → first + length blocks ≤ m + 1 →
      (s : Store) (c i : ℕ) (block : ProgTree) → length s ≡ v → c ≡ first + i → slice_get blocks i ≡ Some block →
      (k : ℕ) (u : Store) → Goes w q (with_counter s c) k u ↔ Goes w block (with_counter s c) k u
  choice_runs _ _ _ (no_block first) within s c i block len at is k u = absurd cc
  choice_runs _ _ _ (one_block first only) within s c zero block len at is k u =
      let same : only ≡ block = same_Some only block is in
      ((λ g. subst (λ p. Goes w p (with_counter s c) k u) same g), (λ g. subst (λ p. Goes w p (with_counter s c) k u) (sym same) g))
  choice_runs _ _ _ (one_block first only) within s c (suc i) block len at is k u = absurd cc
  choice_runs _ _ _ (two_parts first j blocks p r less half one two) within s c i block len at is k u =
      by_truth (nat_lt c (first + j)) refl
      (λ small before. choice_runs first (take j blocks) p one small s c i block len at (get_take blocks j i before ∙ is) k u)
      (λ small number place. choice_runs (first + j) (drop j blocks) r two small s c (i - j) block len number (get_drop blocks j (i - j) ∙ ap (slice_get blocks) place ∙ is) k u)
    where
      middle : first + j ≤ m
      middle = omega (arith, less, within)

      by_truth : (x : Bool) → nat_lt c (first + j) ≡ x →
          (first + length (take j blocks) ≤ m + 1 → i < j → Goes w p (with_counter s c) k u ↔ Goes w block (with_counter s c) k u) →
          (first + j + length (drop j blocks) ≤ m + 1 → c ≡ first + j + (i - j) → j + (i - j) ≡ i → Goes w r (with_counter s c) k u ↔ Goes w block (with_counter s c) k u) →
          Goes w (branch_then (is_below v (first + j)) p r empty) (with_counter s c) k u ↔ Goes w block (with_counter s c) k u
      by_truth true d earlier later =
          let before : i < j = grind (arith, nat_tests) in
          let small : first + length (take j blocks) ≤ m + 1 = omega (arith, within, length-take j blocks) in
          let outer = branch_true w (is_below v (first + j)) p r (with_counter s c) (below_tested s c (first + j) len middle ∙ d) k u in
          let inner = earlier small before in
          ((λ g. inner.0 (outer.0 g)), (λ g. outer.1 (inner.1 g)))
      by_truth false d earlier later =
          let after : j ≤ i = grind (arith, nat_tests) in
          let place : j + (i - j) ≡ i = omega (arith, after) in
          let small : first + j + length (drop j blocks) ≤ m + 1 = omega (arith, within, less, length-drop j blocks) in
          let number : c ≡ first + j + (i - j) = omega (arith, at, after) in
          let outer = branch_false w (is_below v (first + j)) p r (with_counter s c) (below_tested s c (first + j) len middle ∙ d) k u in
          let inner = later small number place in
          ((λ g. inner.0 (outer.0 g)), (λ g. outer.1 (inner.1 g)))

-- ---- the loop

module _ (w : Width) (v m : ℕ) (fits : m < modulus w) (points : List Point) (many : length points ≡ m) (within : All (IsPointWithin v m) points)
    (body : ProgTree) (chooses_points : Chooses v 1 (map (block_of v) points) body) where
  -- the loop continues as long as the counter is not 0
  going_tested : (s : Store) (c : ℕ) → length s ≡ v → holds w (with_counter s c) (is_going v) ≡ not (nat_eq c 0)
  going_tested s c len =
      ap₂ (λ x y. not (nat_eq x y)) (counter_value w v c s len) (point_number w (with_counter s c) 0 (omega (arith, fits)))

  -- a turn at a point runs its block
  turn_runs : (s : Store) (j : ℕ) (point : Point) → length s ≡ v → slice_get points j ≡ Some point →
      (k : ℕ) (u : Store) → Goes w body (with_counter s (suc j)) k u ↔ Goes w (block_of v point) (with_counter s (suc j)) k u
  turn_runs s j point len at k u =
      let number : suc j ≡ 1 + j = omega arith in
      let all : 1 + length (map (block_of v) points) ≤ m + 1 = omega (arith, length-map points (block_of v), many) in
      let there : slice_get (map (block_of v) points) j ≡ Some (block_of v point) = slice_get-map (block_of v) points j ∙ ap (option_map (block_of v)) at in
      choice_runs w v m fits 1 (map (block_of v) points) body chooses_points all s (suc j) j (block_of v point) len number there k u

  within_at : (j : ℕ) (point : Point) → slice_get points j ≡ Some point → IsPointWithin v m point
  within_at j point at =
      subst (IsPointWithin v m) (get_or_from_slice_get points j point stops at) (All-get_or (IsPointWithin v m) points j stops (slice_get_within points j point at) within)

  abbrev pub Looping : ℕ → Store → ℕ → Store → Type 0
  Looping n s k u = Turns n (condition w (is_going v)) (Goes w body) (Leaves (condition w (is_going v))) s k u

  -- the steps of the machine are turns of the loop
  pub halts_turns : (n k : ℕ) (s t : Store) → length s ≡ v → Halts w points n k s t → (i : ℕ) × Looping n (with_counter s k) i (with_counter t 0)
  halts_turns zero k s t len (e, f) =
      let stopped : not (nat_eq k 0) ≡ false = rw (e) refl in
      (0, (going_tested s k len ∙ stopped, (refl, rw (e, f) refl)))
  halts_turns (suc n) zero s t len (point, next, u, at, step, later) = absurd at
  halts_turns (suc n) (suc j) s t len (point, next, u, at, step, later) =
      let is = within_at j point at in
      let turn = (turn_runs s j point len at 0 (with_counter u next)).1 (block_goes w v m fits point s (suc j) next u len is step) in
      let rest = halts_turns n next u t (steps_length point s next u step ∙ len) later in
      let on : not (nat_eq (suc j) 0) ≡ true = grind (arith, nat_tests) in
      (1 + rest.0, (1, rest.0, with_counter u next, (0, going_tested s (suc j) len ∙ on, turn, omega arith), rest.1, refl))
    where
      steps_length : (point : Point) (s : Store) (k : ℕ) (u : Store) → Steps w point s k u → length u ≡ length s
      steps_length (passes next) s k u (e, f) = ap length f
      steps_length stops s k u step = elim step [ ]
      steps_length (checks b next) s k u (h, e, f) = ap length f
      steps_length (sets x a next) s k u (e, f) = ap length f ∙ length-set s x (value w s a)
      steps_length (chooses b met unmet) s k u (e, f) = ap length f

  -- the turns of the loop are steps of the machine, and the counter is 0 at the end
  pub turns_halt : (n k : ℕ) (s : Store) (i : ℕ) (u : Store) → length s ≡ v → k ≤ m → Looping n (with_counter s k) i u → (t : Store) × (u ≡ with_counter t 0) × Halts w points n k s t × (length t ≡ v)
  turns_halt zero k s i u len le (left, (none, stays)) =
      let over : not (nat_eq k 0) ≡ false = sym (going_tested s k len) ∙ left in
      let end : k ≡ 0 = grind (arith, nat_tests) in
      (s, stays ∙ ap (with_counter s) end, (end, refl), len)
  turns_halt (suc n) zero s i u len le (j, l, r, (i', on, goes, e), later, d) =
      let over : not (nat_eq 0 0) ≡ true = sym (going_tested s 0 len) ∙ on in
      absurd cc
  turns_halt (suc n) (suc k) s i u len le (j, l, r, (i', on, goes, e), later, d) =
      let inside : k < length points = omega (arith, le, many) in
      let point = get_or points k stops in
      let at : slice_get points k ≡ Some point = slice_get-get_or points k stops inside in
      let step = block_came w v m fits point s (suc k) i' r len (within_at k point at) ((turn_runs s k point len at i' r).0 goes) in
      let rest = turns_halt n step.0 step.1 l u step.5 step.4 (subst (λ x. Looping n x l u) step.3 later) in
      (rest.0, rest.1, (point, step.0, step.1, at, step.2, rest.2), rest.3)
