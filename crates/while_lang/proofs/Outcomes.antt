-- The end of a program's run is an outcome by the run relations, and the only one.
use Rattle.std.proofs.Common.{◌≡◌, ℕ, zero, suc, ◌+◌, ◌-◌, ◌<◌, ◌≤◌, ◌↔◌, nat_eq, Bool, true, false, ◌&&◌, if◌then◌else◌, refl, sym, subst, ◌∙◌, ap}
use Rattle.std.proofs.Common.{◌⊎◌, inl, inr, ⊎_elim, arith}
use Rattle.std.proofs.lemmas.Bool.{cases_eq, and_parts}
use Rattle.std.proofs.lemmas.Bool.Decides.{nat_tests}
use Rattle.kat_model.specs.Stores.{Store}
use Rattle.kat_model.specs.declared.expression.Width.{Width}
use Rattle.while_lang.specs.Programs.{ProgTree, empty, skip_then, abort_then, assert_then, act_then, assign_then, branch_then, loop_then, is_concrete_cond, is_concrete}
use Rattle.while_lang.specs.Runs.{Run, condition, Stays, Then, Chosen, Enters, Leaves, Faces, Loops, Goes, Sticks, Waits, HasOutcome, HasOneOutcome}
use Rattle.while_lang.specs.Working.Running.{End, ended, then_run, turning, loop_end, run_end}
use Rattle.while_lang.specs.declared.outcome.Outcome.{Outcome}
use Rattle.while_lang.specs.declared.outcome.Outcome.TheVariants.{Done, Stuck, More}
use Rattle.while_lang.proofs.Reached.{goes_done, sticks_stuck, waits_more}

-- a run with this end from `n` turns satisfies the relation of its outcome: `G`, `S` or `W`
abbrev By : (ℕ → Store → Type 0) → (ℕ → Store → Type 0) → (ℕ → Store → Type 0) → ℕ → Outcome → Store → ℕ → Type 0
By G S W n Done t l = (k : ℕ) × G k t × (n ≡ k + l)
By G S W n Stuck t l = (k : ℕ) × S k t × (n ≡ k + l)
By G S W n More t l = W n t × (l ≡ 0)

abbrev Came : Width → ProgTree → Store → ℕ → End → Type 0
Came w p s n e = By (Goes w p s) (Sticks w p s) (Waits w p s) n e.outcome e.store e.left

by_later : (G S W H T V : ℕ → Store → Type 0) → (i l n : ℕ) → n ≡ i + l →
    ((k : ℕ) (t : Store) → G k t → H (i + k) t) → ((k : ℕ) (t : Store) → S k t → T (i + k) t) → ((k : ℕ) (t : Store) → W k t → V (i + k) t) →
    (o : Outcome) (t : Store) (r : ℕ) → By G S W l o t r → By H T V n o t r
by_later G S W H T V i l n e f g h Done t r (k, x, d) = (i + k, f k t x, omega (arith, e, d))
by_later G S W H T V i l n e f g h Stuck t r (k, x, d) = (i + k, g k t x, omega (arith, e, d))
by_later G S W H T V i l n e f g h More t r (x, d) = (rw (e) (h l t x), d)

by_map : (G S W H T V : ℕ → Store → Type 0) → (n : ℕ) →
    ((k : ℕ) (t : Store) → G k t → H k t) → ((k : ℕ) (t : Store) → S k t → T k t) → ((k : ℕ) (t : Store) → W k t → V k t) →
    (o : Outcome) (t : Store) (r : ℕ) → By G S W n o t r → By H T V n o t r
by_map G S W H T V n f g h Done t r (k, x, d) = (k, f k t x, d)
by_map G S W H T V n f g h Stuck t r (k, x, d) = (k, g k t x, d)
by_map G S W H T V n f g h More t r (x, d) = (h n t x, d)

-- a run, then the run that follows it
by_then : (G S W H T V : Run) → (s : Store) (n : ℕ) (next : Store → ℕ → End) →
    ((u : Store) (l : ℕ) → By (H u) (T u) (V u) l (next u l).outcome (next u l).store (next u l).left) →
    (o : Outcome) (u : Store) (l : ℕ) → By (G s) (S s) (W s) n o u l →
    By (λ k t. Then G H s k t) (λ k t. S s k t ⊎ Then G T s k t) (λ k t. W s k t ⊎ Then G V s k t) n
    (then_run (ended o u l) next).outcome (then_run (ended o u l) next).store (then_run (ended o u l) next).left
by_then G S W H T V s n next later Done u l (k, g, e) =
    by_later (H u) (T u) (V u) (λ k t. Then G H s k t) (λ k t. S s k t ⊎ Then G T s k t) (λ k t. W s k t ⊎ Then G V s k t) k l n e
    (λ j t h. (k, j, u, g, h, refl)) (λ j t h. inr (k, j, u, g, h, refl)) (λ j t h. inr (k, j, u, g, h, refl))
    (next u l).outcome (next u l).store (next u l).left (later u l)
by_then G S W H T V s n next later Stuck u l (k, g, e) = (k, inl g, e)
by_then G S W H T V s n next later More u l (g, e) = (inl g, e)

abbrev Looped : (Store → Bool) → Run → Run → Run → Store → ℕ → End → Type 0
Looped b G S W s n e =
    By (Loops b G (Leaves b) s) (Loops b G (Enters b S) s) (λ k t. Loops b G (Faces b) s k t ⊎ Loops b G (Enters b W) s k t) n e.outcome e.store e.left

one_turn : (b : Store → Bool) (G S W : Run) → (s : Store) (n : ℕ) (next : Store → ℕ → End) → b s ≡ true → 0 < n →
    ((u : Store) (l : ℕ) → l < n → Looped b G S W u l (next u l)) →
    (o : Outcome) (u : Store) (l : ℕ) → By (G s) (S s) (W s) (n - 1) o u l → Looped b G S W s n (then_run (ended o u l) next)
one_turn b G S W s n next h p later Done u l (k, g, e) =
    by_later (Loops b G (Leaves b) u) (Loops b G (Enters b S) u) (λ k t. Loops b G (Faces b) u k t ⊎ Loops b G (Enters b W) u k t)
    (Loops b G (Leaves b) s) (Loops b G (Enters b S) s) (λ k t. Loops b G (Faces b) s k t ⊎ Loops b G (Enters b W) s k t) (k + 1) l n (omega (arith, e, p))
    (λ j t x. (suc x.0, (k + 1, j, u, (k, h, g, refl), x.1, refl)))
    (λ j t x. (suc x.0, (k + 1, j, u, (k, h, g, refl), x.1, refl)))
    (λ j t x. ⊎_elim {C = Loops b G (Faces b) s (k + 1 + j) t ⊎ Loops b G (Enters b W) s (k + 1 + j) t}
    (λ y. inl (suc y.0, (k + 1, j, u, (k, h, g, refl), y.1, refl))) (λ y. inr (suc y.0, (k + 1, j, u, (k, h, g, refl), y.1, refl))) x)
    (next u l).outcome (next u l).store (next u l).left (later u l (omega (arith, e, p)))
one_turn b G S W s n next h p later Stuck u l (k, g, e) = (k + 1, (0, (k, h, g, refl)), omega (arith, e, p))
one_turn b G S W s n next h p later More u l (g, e) = (inr (0, (n - 1, h, g, omega (arith, p))), e)

turning_came : (b : Store → Bool) (G S W : Run) (body : Store → ℕ → End) →
    ((s : Store) (n : ℕ) → By (G s) (S s) (W s) n (body s n).outcome (body s n).store (body s n).left) →
    (fuel : ℕ) (s : Store) (n : ℕ) → n ≤ fuel → Looped b G S W s n (turning fuel b body s n)
turning_came b G S W body came zero s n h = by_truth (b s) refl
  where
    by_truth : (x : Bool) → b s ≡ x → Looped b G S W s n (if x then ended More s n else ended Done s n)
    by_truth true e = (inl (0, (e, (omega (arith, h), refl))), omega (arith, h))
    by_truth false e = (0, (0, (e, (refl, refl))), omega arith)
turning_came b G S W body came (suc fuel) s n h = by_truth (b s) refl (cases_eq n 0) (turning_came b G S W body came fuel)
  where
    by_truth : (x : Bool) → b s ≡ x → (n ≡ 0) ⊎ (n ≡ 0 → ⊥) → ((u : Store) (l : ℕ) → l ≤ fuel → Looped b G S W u l (turning fuel b body u l)) →
        Looped b G S W s n (if x then (if nat_eq n 0 then ended More s n else then_run (body s (n - 1)) (turning fuel b body)) else ended Done s n)
    by_truth false e c later = (0, (0, (e, (refl, refl))), omega arith)
    by_truth true e (inl z) later = let q : nat_eq n 0 ≡ true = grind (arith, nat_tests, z) in rw (q) (inl (0, (e, (z, refl))), z)
    by_truth true e (inr d) later =
        let q : nat_eq n 0 ≡ false = grind (arith, nat_tests, d) in
        rw (q) (one_turn b G S W s n (turning fuel b body) e (omega (arith, d)) (λ u l less. later u l (omega (arith, less, h)))
        (body s (n - 1)).outcome (body s (n - 1)).store (body s (n - 1)).left (came s (n - 1)))

-- the end of a concrete program's run satisfies the relation of its outcome
run_came : (w : Width) (p : ProgTree) → is_concrete p ≡ true → (s : Store) (n : ℕ) → Came w p s n (run_end w p s n)
run_came w empty c s n = (0, (refl, refl), omega arith)
run_came w (skip_then rest) c s n = run_came w rest c s n
run_came w (abort_then rest) c s n = (0, (refl, refl), omega arith)
run_came w (assert_then b rest) c s n = by_truth (condition w b s) refl (run_came w rest (and_parts (is_concrete_cond b) (is_concrete rest) c).1 s n)
  where
    by_truth : (x : Bool) → condition w b s ≡ x → Came w rest s n (run_end w rest s n) →
        By (λ k t. (condition w b s ≡ true) × Goes w rest s k t) (λ k t. Chosen x (Sticks w rest s k t) (Stays s k t)) (λ k t. (condition w b s ≡ true) × Waits w rest s k t) n
        (if x then run_end w rest s n else ended Stuck s n).outcome (if x then run_end w rest s n else ended Stuck s n).store
        (if x then run_end w rest s n else ended Stuck s n).left
    by_truth true e h =
        by_map (Goes w rest s) (Sticks w rest s) (Waits w rest s)
        (λ k t. (condition w b s ≡ true) × Goes w rest s k t) (Sticks w rest s) (λ k t. (condition w b s ≡ true) × Waits w rest s k t) n
        (λ k t g. (e, g)) (λ k t g. g) (λ k t g. (e, g)) (run_end w rest s n).outcome (run_end w rest s n).store (run_end w rest s n).left h
    by_truth false e h = (0, (refl, refl), omega arith)
run_came w (act_then a rest) c s n = absurd cc
run_came w (assign_then x e rest) c s n = run_came w rest c _ n
run_came w (branch_then b p q rest) c s n =
    let d = and_parts (is_concrete_cond b && (is_concrete p && is_concrete q)) (is_concrete rest) c in
    let parts = and_parts (is_concrete p) (is_concrete q) (and_parts (is_concrete_cond b) (is_concrete p && is_concrete q) d.0).1 in
    let e = if condition w b s then run_end w p s n else run_end w q s n in
    by_then (λ u i v. Chosen (condition w b u) (Goes w p u i v) (Goes w q u i v)) (λ u i v. Chosen (condition w b u) (Sticks w p u i v) (Sticks w q u i v))
    (λ u i v. Chosen (condition w b u) (Waits w p u i v) (Waits w q u i v))
    (Goes w rest) (Sticks w rest) (Waits w rest) s n (run_end w rest) (run_came w rest d.1) e.outcome e.store e.left
    (by_truth (condition w b s) (run_came w p parts.0 s n) (run_came w q parts.1 s n))
  where
    by_truth : (x : Bool) → Came w p s n (run_end w p s n) → Came w q s n (run_end w q s n) →
        By (λ k t. Chosen x (Goes w p s k t) (Goes w q s k t)) (λ k t. Chosen x (Sticks w p s k t) (Sticks w q s k t)) (λ k t. Chosen x (Waits w p s k t) (Waits w q s k t)) n
        (if x then run_end w p s n else run_end w q s n).outcome (if x then run_end w p s n else run_end w q s n).store
        (if x then run_end w p s n else run_end w q s n).left
    by_truth true g h = g
    by_truth false g h = h
run_came w (loop_then b p rest) c s n =
    let d = and_parts (is_concrete_cond b && is_concrete p) (is_concrete rest) c in
    let body = (and_parts (is_concrete_cond b) (is_concrete p) d.0).1 in
    let e = loop_end (condition w b) (run_end w p) s n in
    let f = then_run e (run_end w rest) in
    by_map (Goes w (loop_then b p rest) s) (Sticks w (loop_then b p rest) s)
    (λ k t. (Loops (condition w b) (Goes w p) (Faces (condition w b)) s k t ⊎ Loops (condition w b) (Goes w p) (Enters (condition w b) (Waits w p)) s k t)
    ⊎ Then (Loops (condition w b) (Goes w p) (Leaves (condition w b))) (Waits w rest) s k t)
    (Goes w (loop_then b p rest) s) (Sticks w (loop_then b p rest) s) (Waits w (loop_then b p rest) s)
    n (λ k t g. g) (λ k t g. g) (λ k t g. three g) f.outcome f.store f.left
    (by_then (Loops (condition w b) (Goes w p) (Leaves (condition w b))) (Loops (condition w b) (Goes w p) (Enters (condition w b) (Sticks w p)))
    (λ u k t. Loops (condition w b) (Goes w p) (Faces (condition w b)) u k t ⊎ Loops (condition w b) (Goes w p) (Enters (condition w b) (Waits w p)) u k t)
    (Goes w rest) (Sticks w rest) (Waits w rest) s n (run_end w rest) (run_came w rest d.1) e.outcome e.store e.left
    (turning_came (condition w b) (Goes w p) (Sticks w p) (Waits w p) (run_end w p) (run_came w p body) n s n (omega arith)))
  where
    three : {A B C : Type 0} → (A ⊎ B) ⊎ C → A ⊎ B ⊎ C
    three (inl (inl x)) = inl x
    three (inl (inr x)) = inr (inl x)
    three (inr x) = inr (inr x)

-- the end of a run is an outcome by the relations
came_outcome : (w : Width) (p : ProgTree) (s : Store) (n : ℕ) (o : Outcome) (t : Store) (l : ℕ) →
    By (Goes w p s) (Sticks w p s) (Waits w p s) n o t l → HasOutcome w p s n o t
came_outcome w p s n Done t l (k, g, e) = (k, omega (arith, e), g)
came_outcome w p s n Stuck t l (k, g, e) = (k, omega (arith, e), g)
came_outcome w p s n More t l (g, e) = g

-- an outcome by the relations is the end of the run
outcome_came : (w : Width) (p : ProgTree) (s : Store) (n : ℕ) (o : Outcome) (t : Store) → HasOutcome w p s n o t → (l : ℕ) × (run_end w p s n ≡ ended o t l)
outcome_came w p s n Done t (k, le, g) =
    let all : n ≡ k + (n - k) = omega (arith, le) in
    (n - k, ap (run_end w p s) all ∙ goes_done w p s k t g (n - k))
outcome_came w p s n Stuck t (k, le, g) =
    let all : n ≡ k + (n - k) = omega (arith, le) in
    (n - k, ap (run_end w p s) all ∙ sticks_stuck w p s k t g (n - k))
outcome_came w p s n More t g =
    let all : n ≡ n + 0 = omega arith in
    (0, ap (run_end w p s) all ∙ waits_more w p s n t g)

-- the run of a concrete program decides its only outcome
pub decided : (w : Width) (p : ProgTree) (s : Store) (n : ℕ) (o : Outcome) (t : Store) (l : ℕ) → is_concrete p ≡ true → ended o t l ≡ run_end w p s n →
    (r : Outcome) (u : Store) → ((o ≡ r) × (t ≡ u)) ↔ HasOutcome w p s n r u
decided w p s n o t l c e r u = (there, back)
  where
    here : HasOutcome w p s n o t
    here = came_outcome w p s n o t l (subst (λ (x : End). By (Goes w p s) (Sticks w p s) (Waits w p s) n x.outcome x.store x.left) (sym e) (run_came w p c s n))

    there : (o ≡ r) × (t ≡ u) → HasOutcome w p s n r u
    there (same, store) = rw (← same, ← store) here

    back : HasOutcome w p s n r u → (o ≡ r) × (t ≡ u)
    back h = let f = outcome_came w p s n r u h in (ap (λ (x : End). x.outcome) (e ∙ f.1), ap (λ (x : End). x.store) (e ∙ f.1))

pub one_outcome : (w : Width) (p : ProgTree) (s : Store) (n : ℕ) → is_concrete p ≡ true → HasOneOutcome w p s n
one_outcome w p s n c = record {
  outcome = e.outcome;
  store = e.store;
  reached = came_outcome w p s n e.outcome e.store e.left (run_came w p c s n);
  only = λ o t h. let f = outcome_came w p s n o t h in (sym (ap (λ (x : End). x.outcome) f.1), sym (ap (λ (x : End). x.store) f.1));
}
  where
    e : End
    e = run_end w p s n
