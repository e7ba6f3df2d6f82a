-- A run of a program is a run of its machine, and conversely.
use Rattle.std.proofs.Common.{◌≡◌, ℕ, zero, suc, ◌+◌, ◌<◌, ◌≤◌, ◌↔◌, List, [], ◌∷◌, ◌++◌, length, set, Bool, true, false, if◌then◌else◌, Option, Some, refl, sym, ap, ◌∙◌, subst, arith}
use Rattle.std.specs.List.{slice_get}
use Rattle.std.proofs.lemmas.Option.{same_Some}
use Rattle.std.proofs.lemmas.List.{length-append}
use Rattle.kat_model.specs.Expressions.{CondTree}
use Rattle.kat_model.specs.Stores.{Store, value, holds}
use Rattle.kat_model.specs.declared.expression.Width.{Width}
use Rattle.while_lang.specs.Programs.{ProgTree, empty, skip_then, abort_then, assert_then, act_then, assign_then, branch_then, loop_then, statements}
use Rattle.while_lang.specs.Runs.{condition, Chosen, Leaves, Turns, Loops, Goes, Ends}
use Rattle.one_loop.specs.Working.Machine.{Point, passes, stops, checks, sets, chooses, Steps, IsPointAt, Halts, start_of, points_of}
use Rattle.one_loop.proofs.PointLists.{length_points}

-- ---- the positions of points

-- the points of a program occur in `points` after `before` others
abbrev pub IsLaid : List Point → ProgTree → ℕ → ℕ → Type 0
IsLaid points empty before next = Unit {0}
IsLaid points (skip_then rest) before next =
    IsLaid points rest before next × (slice_get points (before + statements rest) ≡ Some (passes (start_of rest before next)))
IsLaid points (abort_then rest) before next = IsLaid points rest before next × (slice_get points (before + statements rest) ≡ Some stops)
IsLaid points (assert_then b rest) before next =
    IsLaid points rest before next × (slice_get points (before + statements rest) ≡ Some (checks b (start_of rest before next)))
IsLaid points (act_then a rest) before next = IsLaid points rest before next × (slice_get points (before + statements rest) ≡ Some stops)
IsLaid points (assign_then x e rest) before next =
    IsLaid points rest before next × (slice_get points (before + statements rest) ≡ Some (sets x e (start_of rest before next)))
IsLaid points (branch_then b p q rest) before next =
    IsLaid points rest before next
    × (slice_get points (before + statements rest)
    ≡ Some (chooses b
    (start_of p (before + statements rest + 1) (start_of rest before next))
    (start_of q (before + statements rest + 1 + statements p) (start_of rest before next))))
    × IsLaid points p (before + statements rest + 1) (start_of rest before next)
    × IsLaid points q (before + statements rest + 1 + statements p) (start_of rest before next)
IsLaid points (loop_then b p rest) before next =
    IsLaid points rest before next
    × (slice_get points (before + statements rest)
    ≡ Some (chooses b (start_of p (before + statements rest + 1) (before + statements rest + 1)) (start_of rest before next)))
    × IsLaid points p (before + statements rest + 1) (before + statements rest + 1)

-- the points of `part` occur in `points` from position `before` on
abbrev pub IsPart : List Point → List Point → ℕ → Type 0
IsPart points part before = (k : ℕ) (point : Point) → slice_get part k ≡ Some point → slice_get points (before + k) ≡ Some point

slice_get-left : (xs ys : List Point) (k : ℕ) (x : Point) → slice_get xs k ≡ Some x → slice_get (xs ++ ys) k ≡ Some x
slice_get-left [] ys k x h = absurd cc
slice_get-left (z ∷ xs) ys zero x h = h
slice_get-left (z ∷ xs) ys (suc k) x h = slice_get-left xs ys k x h

slice_get-right : (xs ys : List Point) (k : ℕ) → slice_get (xs ++ ys) (length xs + k) ≡ slice_get ys k
slice_get-right [] ys k = ap (slice_get ys) (omega arith)
slice_get-right (x ∷ xs) ys k =
    let next : length (x ∷ xs) + k ≡ suc (length xs + k) = omega arith in
    ap (slice_get (x ∷ xs ++ ys)) next ∙ slice_get-right xs ys k

part_left : (points xs ys : List Point) (before : ℕ) → IsPart points (xs ++ ys) before → IsPart points xs before
part_left points xs ys before part k x h = part k x (slice_get-left xs ys k x h)

part_right : (points xs ys : List Point) (before n : ℕ) → length xs ≡ n → IsPart points (xs ++ ys) before → IsPart points ys (before + n)
part_right points xs ys before n len part k x h =
    let there : slice_get (xs ++ ys) (length xs + k) ≡ Some x = slice_get-right xs ys k ∙ h in
    let place : before + (length xs + k) ≡ before + n + k = omega (arith, len) in
    subst (λ i. slice_get points i ≡ Some x) place (part (length xs + k) x there)

part_head : (points ys : List Point) (x : Point) (before : ℕ) → IsPart points (x ∷ ys) before → slice_get points before ≡ Some x
part_head points ys x before part =
    let place : before + 0 ≡ before = omega arith in
    subst (λ i. slice_get points i ≡ Some x) place (part 0 x refl)

part_tail : (points ys : List Point) (x : Point) (before : ℕ) → IsPart points (x ∷ ys) before → IsPart points ys (before + 1)
part_tail points ys x before part = part_right points (x ∷ []) ys before 1 refl part

-- the last point of a part
part_last : (points xs : List Point) (x : Point) (before n : ℕ) → length xs ≡ n → IsPart points (xs ++ x ∷ []) before → slice_get points (before + n) ≡ Some x
part_last points xs x before n len part = part_head points [] x (before + n) (part_right points xs (x ∷ []) before n len part)

pub laid : (points : List Point) (p : ProgTree) (before next : ℕ) → IsPart points (points_of p before next) before → IsLaid points p before next
unfolding points_of
laid points empty before next part = tt
laid points (skip_then rest) before next part =
    (laid points rest before next (part_left points _ _ before part), part_last points (points_of rest before next) _ before (statements rest) (length_points rest before next) part)
laid points (abort_then rest) before next part =
    (laid points rest before next (part_left points _ _ before part), part_last points (points_of rest before next) _ before (statements rest) (length_points rest before next) part)
laid points (assert_then b rest) before next part =
    (laid points rest before next (part_left points _ _ before part), part_last points (points_of rest before next) _ before (statements rest) (length_points rest before next) part)
laid points (act_then a rest) before next part =
    (laid points rest before next (part_left points _ _ before part), part_last points (points_of rest before next) _ before (statements rest) (length_points rest before next) part)
laid points (assign_then x e rest) before next part =
    (laid points rest before next (part_left points _ _ before part), part_last points (points_of rest before next) _ before (statements rest) (length_points rest before next) part)
laid points (branch_then b p q rest) before next part =
    let f = start_of rest before next in
    let own = before + statements rest in
    let ps = points_of p (own + 1) f in
    let qs = points_of q (own + 1 + statements p) f in
    let here = part_right points (points_of rest before next) _ before (statements rest) (length_points rest before next) part in
    let inner = part_tail points (ps ++ qs) _ own here in (
      laid points rest before next (part_left points (points_of rest before next) _ before part),
      part_head points (ps ++ qs) _ own here,
      laid points p (own + 1) f (part_left points ps qs (own + 1) inner),
      laid points q (own + 1 + statements p) f (part_right points ps qs (own + 1) (statements p) (length_points p (own + 1) f) inner),
    )
laid points (loop_then b p rest) before next part =
    let own = before + statements rest in
    let ps = points_of p (own + 1) (own + 1) in
    let here = part_right points (points_of rest before next) _ before (statements rest) (length_points rest before next) part in (
      laid points rest before next (part_left points (points_of rest before next) _ before part),
      part_head points ps _ own here,
      laid points p (own + 1) (own + 1) (part_tail points ps _ own here),
    )

-- ---- runs

-- the number of the point at a position
at_place : (points : List Point) (n : ℕ) (point : Point) → slice_get points n ≡ Some point → IsPointAt points (n + 1) point
at_place points n point h =
    let number : suc n ≡ n + 1 = omega arith in
    subst (λ k. IsPointAt points k point) number h

-- a number has at most one point
same_point : (points : List Point) (n : ℕ) (a b : Point) → slice_get points n ≡ Some a → IsPointAt points (n + 1) b → a ≡ b
same_point points n a b h k =
    let number : n + 1 ≡ suc n = omega arith in
    same_Some a b (sym h ∙ subst (λ i. IsPointAt points i b) number k)

module _ (w : Width) (points : List Point) where
  -- some number of steps leads from the point k and the store s to the end and the store t
  abbrev pub EndsFrom : ℕ → Store → Store → Type 0
  EndsFrom k s t = (n : ℕ) × Halts w points n k s t

  step_first : (n next : ℕ) (point : Point) (s u t : Store) → slice_get points n ≡ Some point → Steps w point s next u → EndsFrom next u t → EndsFrom (n + 1) s t
  step_first n next point s u t at step later = (suc later.0, (point, next, u, at_place points n point at, step, later.1))

  -- the machine follows the run of the program
  turns_run : (b : CondTree) (p : ProgTree) (own leave k : ℕ) (t : Store) →
      slice_get points own ≡ Some (chooses b k leave) →
      ((s : Store) (i : ℕ) (u : Store) → Goes w p s i u → EndsFrom (own + 1) u t → EndsFrom k s t) →
      (n : ℕ) (s : Store) (i : ℕ) (u : Store) → Turns n (condition w b) (Goes w p) (Leaves (condition w b)) s i u → EndsFrom leave u t → EndsFrom (own + 1) s t
  turns_run b p own leave k t at body zero s i u (fails, (none, stays)) later =
      step_first own leave (chooses b k leave) s s t at
      (ap (λ x. if x then k else leave) (sym fails), refl)
      (subst (λ r. EndsFrom leave r t) stays later)
  turns_run b p own leave k t at body (suc n) s i u (j, l, r, (h, holds, goes, e), turns, d) later =
      step_first own k (chooses b k leave) s s t at
      (ap (λ x. if x then k else leave) (sym holds), refl)
      (body s h r goes (turns_run b p own leave k t at body n r l u turns later))

  branch_run : {A B : Type 0} → (b : CondTree) (own met unmet : ℕ) (s t : Store) → slice_get points own ≡ Some (chooses b met unmet) →
      Chosen (holds w s b) A B → (A → EndsFrom met s t) → (B → EndsFrom unmet s t) → EndsFrom (own + 1) s t
  branch_run {A} {B} b own met unmet s t at chosen first second = by_truth (holds w s b) refl chosen
    where
      by_truth : (x : Bool) → holds w s b ≡ x → Chosen x A B → EndsFrom (own + 1) s t
      by_truth true h c = step_first own met (chooses b met unmet) s s t at (ap (λ x. if x then met else unmet) (sym h), refl) (first c)
      by_truth false h c = step_first own unmet (chooses b met unmet) s s t at (ap (λ x. if x then met else unmet) (sym h), refl) (second c)

  pub run_machine : (p : ProgTree) (before next : ℕ) → IsLaid points p before next → (s : Store) (i : ℕ) (u t : Store) → Goes w p s i u → EndsFrom next u t → EndsFrom (start_of p before next) s t
  unfolding start_of
  run_machine empty before next is s i u t (none, stays) later = subst (λ r. EndsFrom next r t) stays later
  run_machine (skip_then rest) before next is s i u t goes later =
      step_first (before + statements rest) (start_of rest before next) (passes (start_of rest before next)) s s t is.1 (refl, refl) (run_machine rest before next is.0 s i u t goes later)
  run_machine (abort_then rest) before next is s i u t goes later = elim goes [ ]
  run_machine (assert_then b rest) before next is s i u t (holds, goes) later =
      step_first (before + statements rest) (start_of rest before next) (checks b (start_of rest before next)) s s t is.1 (holds, refl, refl) (run_machine rest before next is.0 s i u t goes later)
  run_machine (act_then a rest) before next is s i u t goes later = elim goes [ ]
  run_machine (assign_then x e rest) before next is s i u t goes later =
      step_first (before + statements rest) (start_of rest before next) (sets x e (start_of rest before next)) s (set s x (value w s e)) t is.1 (refl, refl)
      (run_machine rest before next is.0 (set s x (value w s e)) i u t goes later)
  run_machine (branch_then b p q rest) before next is s i u t (j, l, r, chosen, goes, e) later =
      let f = start_of rest before next in
      let own = before + statements rest in
      let after = run_machine rest before next is.0 r l u t goes later in
      branch_run b own (start_of p (own + 1) f) (start_of q (own + 1 + statements p) f) s t is.1 chosen
      (λ g. run_machine p (own + 1) f is.2 s j r t g after)
      (λ g. run_machine q (own + 1 + statements p) f is.3 s j r t g after)
  run_machine (loop_then b p rest) before next is s i u t (j, l, r, (n, turns), goes, e) later =
      let f = start_of rest before next in
      let own = before + statements rest in
      turns_run b p own f (start_of p (own + 1) (own + 1)) t is.1 (λ x h y g k. run_machine p (own + 1) (own + 1) is.2 x h y t g k) n s j r turns
      (run_machine rest before next is.0 r l u t goes later)

  -- ---- the run of the program follows the machine

  -- the first step of a run that does not begin at the end
  abbrev Stepped : ℕ → Point → Store → Store → Type 0
  Stepped n point s t = (m : ℕ) × (next : ℕ) × (u : Store) × (m < n) × Steps w point s next u × Halts w points m next u t

  step_back : (n own : ℕ) (point : Point) (s t : Store) → slice_get points own ≡ Some point → Halts w points n (own + 1) s t → Stepped n point s t
  step_back zero own point s t at (none, stays) = absurd (omega (arith, none))
  step_back (suc m) own point s t at (other, next, u, there, step, later) =
      (m, next, u, omega arith, subst (λ x. Steps w x s next u) (sym (same_point points own point other at there)) step, later)

  -- a run of a program, then at most n steps from the point that follows
  abbrev Came : ℕ → (Store → ℕ → Store → Type 0) → ℕ → Store → Store → Type 0
  Came n R next s t = (i : ℕ) × (u : Store) × R s i u × (m : ℕ) × (m ≤ n) × Halts w points m next u t

  loop_back : (b : CondTree) (p : ProgTree) (own leave k : ℕ) (t : Store) → slice_get points own ≡ Some (chooses b k leave) →
      ((n : ℕ) (s : Store) → Halts w points n k s t → Came n (Goes w p) (own + 1) s t) →
      (fuel n : ℕ) → n ≤ fuel → (s : Store) → Halts w points n (own + 1) s t → Came n (Loops (condition w b) (Goes w p) (Leaves (condition w b))) leave s t
  loop_back b p own leave k t at body zero n within s h =
      let first = step_back n own (chooses b k leave) s t at h in
      absurd (omega (arith, within, first.3))
  loop_back b p own leave k t at body (suc fuel) n within s h =
      let first = step_back n own (chooses b k leave) s t at h in
      by_truth first.0 first.3 (λ m less r later. loop_back b p own leave k t at body fuel m (omega (arith, less, within)) r later) (holds w s b) refl
      (subst (λ r. Halts w points first.0 (if holds w s b then k else leave) r t) first.4.1 (subst (λ i. Halts w points first.0 i first.2 t) first.4.0 first.5))
    where
      by_truth : (m : ℕ) → m < n →
          ((i : ℕ) → i < n → (r : Store) → Halts w points i (own + 1) r t → Came i (Loops (condition w b) (Goes w p) (Leaves (condition w b))) leave r t) →
          (x : Bool) → holds w s b ≡ x → Halts w points m (if x then k else leave) s t → Came n (Loops (condition w b) (Goes w p) (Leaves (condition w b))) leave s t
      by_truth m less again true holds later =
          let turn = body m s later in
          let rest = again turn.3 (omega (arith, turn.4, less)) turn.1 turn.5 in (
            turn.0 + 1 + rest.0,
            rest.1,
            (suc rest.2.0, (turn.0 + 1, rest.0, turn.1, (turn.0, holds, turn.2, refl), rest.2.1, refl)),
            rest.3,
            omega (arith, rest.4, turn.4, less),
            rest.5,
          )
      by_truth m less again false fails later = (0, s, (0, (fails, (refl, refl))), m, omega (arith, less), later)

  branch_back : (n own met unmet : ℕ) (b : CondTree) (p q : ProgTree) (next : ℕ) (s t : Store) → slice_get points own ≡ Some (chooses b met unmet) →
      ((m : ℕ) → Halts w points m met s t → Came m (Goes w p) next s t) → ((m : ℕ) → Halts w points m unmet s t → Came m (Goes w q) next s t) →
      Halts w points n (own + 1) s t → Came n (λ u i v. Chosen (condition w b u) (Goes w p u i v) (Goes w q u i v)) next s t
  branch_back n own met unmet b p q next s t at first second h =
      let step = step_back n own (chooses b met unmet) s t at h in
      by_truth step.0 step.3 (holds w s b) refl (subst (λ r. Halts w points step.0 (if holds w s b then met else unmet) r t) step.4.1 (subst (λ i. Halts w points step.0 i step.2 t) step.4.0 step.5))
    where
      by_truth : (m : ℕ) → m < n → (x : Bool) → holds w s b ≡ x → Halts w points m (if x then met else unmet) s t →
          Came n (λ u i v. Chosen (condition w b u) (Goes w p u i v) (Goes w q u i v)) next s t
      by_truth m less true holds later =
          let run = first m later in
          (run.0, run.1, subst (λ x. Chosen x (Goes w p s run.0 run.1) (Goes w q s run.0 run.1)) (sym holds) run.2, run.3, omega (arith, run.4, less), run.5)
      by_truth m less false fails later =
          let run = second m later in
          (run.0, run.1, subst (λ x. Chosen x (Goes w p s run.0 run.1) (Goes w q s run.0 run.1)) (sym fails) run.2, run.3, omega (arith, run.4, less), run.5)

  pub machine_run : (p : ProgTree) (before next : ℕ) → IsLaid points p before next → (n : ℕ) (s t : Store) → Halts w points n (start_of p before next) s t → Came n (Goes w p) next s t
  unfolding start_of
  machine_run empty before next is n s t h = (0, s, (refl, refl), n, omega arith, h)
  machine_run (skip_then rest) before next is n s t h =
      let f = start_of rest before next in
      let first = step_back n (before + statements rest) (passes f) s t is.1 h in
      let run = machine_run rest before next is.0 first.0 s t (subst (λ r. Halts w points first.0 f r t) first.4.1 (subst (λ i. Halts w points first.0 i first.2 t) first.4.0 first.5)) in
      (run.0, run.1, run.2, run.3, omega (arith, run.4, first.3), run.5)
  machine_run (abort_then rest) before next is n s t h =
      let first = step_back n (before + statements rest) stops s t is.1 h in
      absurd first.4
  machine_run (assert_then b rest) before next is n s t h =
      let f = start_of rest before next in
      let first = step_back n (before + statements rest) (checks b f) s t is.1 h in
      let run = machine_run rest before next is.0 first.0 s t (subst (λ r. Halts w points first.0 f r t) first.4.2 (subst (λ i. Halts w points first.0 i first.2 t) first.4.1 first.5)) in
      (run.0, run.1, (first.4.0, run.2), run.3, omega (arith, run.4, first.3), run.5)
  machine_run (act_then a rest) before next is n s t h =
      let first = step_back n (before + statements rest) stops s t is.1 h in
      absurd first.4
  machine_run (assign_then x e rest) before next is n s t h =
      let f = start_of rest before next in
      let first = step_back n (before + statements rest) (sets x e f) s t is.1 h in
      let run = machine_run rest before next is.0 first.0 (set s x (value w s e)) t (subst (λ r. Halts w points first.0 f r t) first.4.1 (subst (λ i. Halts w points first.0 i first.2 t) first.4.0 first.5)) in
      (run.0, run.1, run.2, run.3, omega (arith, run.4, first.3), run.5)
  machine_run (branch_then b p q rest) before next is n s t h =
      let f = start_of rest before next in
      let own = before + statements rest in
      let first = branch_back n own (start_of p (own + 1) f) (start_of q (own + 1 + statements p) f) b p q f s t is.1
      (λ m k. machine_run p (own + 1) f is.2 m s t k) (λ m k. machine_run q (own + 1 + statements p) f is.3 m s t k) h in
      let run = machine_run rest before next is.0 first.3 first.1 t first.5 in
      (first.0 + run.0, run.1, (first.0, run.0, first.1, first.2, run.2, refl), run.3, omega (arith, run.4, first.4), run.5)
  machine_run (loop_then b p rest) before next is n s t h =
      let f = start_of rest before next in
      let own = before + statements rest in
      let first = loop_back b p own f (start_of p (own + 1) (own + 1)) t is.1 (λ m r k. machine_run p (own + 1) (own + 1) is.2 m r t k) n n (omega arith) s h in
      let run = machine_run rest before next is.0 first.3 first.1 t first.5 in
      (first.0 + run.0, run.1, (first.0, run.0, first.1, first.2, run.2, refl), run.3, omega (arith, run.4, first.4), run.5)

  -- no step is possible from the end
  pub at_end : (n : ℕ) (u t : Store) → Halts w points n 0 u t → t ≡ u
  at_end zero u t (none, stays) = stays
  at_end (suc n) u t (point, next, r, there, step, later) = absurd there

-- a program ends exactly when its machine does
pub machine_ends : (w : Width) (p : ProgTree) (s t : Store) → Ends w p s t ↔ EndsFrom w (points_of p 0 0) (start_of p 0 0) s t
machine_ends w p s t =
    let points = points_of p 0 0 in
    let whole : IsPart points points 0 = λ k point h. subst (λ i. slice_get points i ≡ Some point) (omega arith) h in
    let is = laid points p 0 0 whole in (
      (λ (k, goes). run_machine w points p 0 0 is s k t t goes (0, (refl, refl))),
      (λ (n, halts).
          let run = machine_run w points p 0 0 is n s t halts in
          (run.0, subst (λ u. Goes w p s run.0 u) (sym (at_end w points run.3 run.1 t run.5)) run.2)),
    )
