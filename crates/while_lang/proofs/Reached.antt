-- The run of a program ends as the run relations state.
use Rattle.std.proofs.Common.{◌≡◌, ℕ, zero, suc, ◌+◌, ◌-◌, Bool, true, false, if◌then◌else◌, refl, sym, ◌∙◌, ap, inl, inr, arith}
use Rattle.kat_model.specs.Expressions.{CondTree}
use Rattle.kat_model.specs.Stores.{Store}
use Rattle.kat_model.specs.declared.expression.Width.{Width}
use Rattle.while_lang.specs.Programs.{ProgTree, empty, skip_then, abort_then, assert_then, act_then, assign_then, branch_then, loop_then}
use Rattle.while_lang.specs.Runs.{Run, condition, Chosen, Enters, Leaves, Faces, Turns, Goes, Sticks, Waits}
use Rattle.while_lang.specs.Working.Running.{End, ended, then_run, loop_end, run_end}
use Rattle.while_lang.specs.declared.outcome.Outcome.TheVariants.{Done, Stuck, More}
use Rattle.while_lang.proofs.Turns.{converse, stopped, passed, used_up, run_less}

chosen : {A B : Type 0} → (x : Bool) (P Q e : End) → Chosen x A B → (A → P ≡ e) → (B → Q ≡ e) → (if x then P else Q) ≡ e
chosen true P Q e h f g = f h
chosen false P Q e h f g = g h

then_to : (e : End) (next : Store → ℕ → End) (u : Store) (n : ℕ) (res : End) → e ≡ ended Done u n → next u n ≡ res → then_run e next ≡ res
then_to e next u n res h k = rw (h) k

then_stuck : (e : End) (next : Store → ℕ → End) (u : Store) (n : ℕ) → e ≡ ended Stuck u n → then_run e next ≡ ended Stuck u n
then_stuck e next u n h = rw (h) refl

then_more : (e : End) (next : Store → ℕ → End) (u : Store) (n : ℕ) → e ≡ ended More u n → then_run e next ≡ ended More u n
then_more e next u n h = rw (h) refl

-- a number of completed turns, then an end
turns_to : (w : Width) (b : Store → Bool) (p : ProgTree) (R : Run) (r : ℕ) (res : Store → End) →
    ((s : Store) (k : ℕ) (t : Store) → Goes w p s k t → (r : ℕ) → run_end w p s (k + r) ≡ ended Done t r) →
    ((s : Store) (k : ℕ) (t : Store) → R s k t → loop_end b (run_end w p) s (k + r) ≡ res t) →
    (n : ℕ) (s : Store) (k : ℕ) (t : Store) → Turns n b (Goes w p) R s k t → loop_end b (run_end w p) s (k + r) ≡ res t
turns_to w b p R r res done last zero s k t h = last s k t h
turns_to w b p R r res done last (suc n) s k t (i, j, u, (l, g, c, e), later, f) =
    let less : l + (j + r) ≡ k + r - 1 = omega (arith, e, f) in
    converse b (run_end w p) (run_less w p) s (k + r) Done u (j + r) g (omega (arith, e, f)) (rw (← less) (sym (done s l u c (j + r)))) refl
    ∙ turns_to w b p R r res done last n u j t later

left_done : (w : Width) (b : CondTree) (p : ProgTree) (r : ℕ) (s : Store) (k : ℕ) (t : Store) → Leaves (condition w b) s k t → loop_end (condition w b) (run_end w p) s (k + r) ≡ ended Done t r
left_done w b p r s k t (h, (e, f)) = passed (condition w b) (run_end w p) s (k + r) h ∙ rw (e, f) (ap (ended Done s) (omega arith))

pub goes_done : (w : Width) (p : ProgTree) (s : Store) (k : ℕ) (t : Store) → Goes w p s k t → (r : ℕ) → run_end w p s (k + r) ≡ ended Done t r
goes_done w empty s k t (e, f) r = rw (e, f) (ap (ended Done s) (omega arith))
goes_done w (skip_then rest) s k t g r = goes_done w rest s k t g r
goes_done w (assert_then b rest) s k t (h, g) r = rw (h) (goes_done w rest s k t g r)
goes_done w (assign_then x e rest) s k t g r = goes_done w rest _ k t g r
goes_done w (branch_then b p q rest) s k t (i, j, u, g, c, e) r =
    let a : k + r ≡ i + (j + r) = omega (arith, e) in
    rw (a) (then_to (if condition w b s then run_end w p s (i + (j + r)) else run_end w q s (i + (j + r))) (run_end w rest) u (j + r) (ended Done t r)
    (chosen (condition w b s) _ _ _ g (λ h. goes_done w p s i u h (j + r)) (λ h. goes_done w q s i u h (j + r)))
    (goes_done w rest u j t c r))
goes_done w (loop_then b p rest) s k t (i, j, u, (n, g), c, e) r =
    let a : k + r ≡ i + (j + r) = omega (arith, e) in
    rw (a) (then_to (loop_end (condition w b) (run_end w p) s (i + (j + r))) (run_end w rest) u (j + r) (ended Done t r)
    (turns_to w (condition w b) p (Leaves (condition w b)) (j + r) (λ v. ended Done v (j + r)) (goes_done w p) (left_done w b p (j + r)) n s i u g)
    (goes_done w rest u j t c r))
goes_done w (abort_then rest) s k t g r = elim g [ ]
goes_done w (act_then a rest) s k t g r = elim g [ ]

entered_stuck : (w : Width) (b : CondTree) (p : ProgTree) (r : ℕ) → ((s : Store) (k : ℕ) (t : Store) → Sticks w p s k t → (r : ℕ) → run_end w p s (k + r) ≡ ended Stuck t r) →
    (s : Store) (k : ℕ) (t : Store) → Enters (condition w b) (Sticks w p) s k t → loop_end (condition w b) (run_end w p) s (k + r) ≡ ended Stuck t r
entered_stuck w b p r stuck s k t (i, h, c, e) =
    let less : i + r ≡ k + r - 1 = omega (arith, e) in
    stopped (condition w b) (run_end w p) s (k + r) Stuck t r h (omega (arith, e)) (rw (← less) (sym (stuck s i t c r))) (λ d. absurd cc)

pub sticks_stuck : (w : Width) (p : ProgTree) (s : Store) (k : ℕ) (t : Store) → Sticks w p s k t → (r : ℕ) → run_end w p s (k + r) ≡ ended Stuck t r
sticks_stuck w empty s k t g r = elim g [ ]
sticks_stuck w (skip_then rest) s k t g r = sticks_stuck w rest s k t g r
sticks_stuck w (abort_then rest) s k t (e, f) r = rw (e, f) (ap (ended Stuck s) (omega arith))
sticks_stuck w (assert_then b rest) s k t g r = chosen (condition w b s) _ _ _ g (λ h. sticks_stuck w rest s k t h r) (λ h. rw (h.0, h.1) (ap (ended Stuck s) (omega arith)))
sticks_stuck w (act_then a rest) s k t g r = elim g [ ]
sticks_stuck w (assign_then x e rest) s k t g r = sticks_stuck w rest _ k t g r
sticks_stuck w (branch_then b p q rest) s k t (inl g) r =
    then_stuck (if condition w b s then run_end w p s (k + r) else run_end w q s (k + r)) (run_end w rest) t r
    (chosen (condition w b s) _ _ _ g (λ h. sticks_stuck w p s k t h r) (λ h. sticks_stuck w q s k t h r))
sticks_stuck w (branch_then b p q rest) s k t (inr (i, j, u, g, c, e)) r =
    let a : k + r ≡ i + (j + r) = omega (arith, e) in
    rw (a) (then_to (if condition w b s then run_end w p s (i + (j + r)) else run_end w q s (i + (j + r))) (run_end w rest) u (j + r) (ended Stuck t r)
    (chosen (condition w b s) _ _ _ g (λ h. goes_done w p s i u h (j + r)) (λ h. goes_done w q s i u h (j + r)))
    (sticks_stuck w rest u j t c r))
sticks_stuck w (loop_then b p rest) s k t (inl (n, g)) r =
    then_stuck (loop_end (condition w b) (run_end w p) s (k + r)) (run_end w rest) t r
    (turns_to w (condition w b) p (Enters (condition w b) (Sticks w p)) r (λ v. ended Stuck v r) (goes_done w p) (entered_stuck w b p r (sticks_stuck w p)) n s k t g)
sticks_stuck w (loop_then b p rest) s k t (inr (i, j, u, (n, g), c, e)) r =
    let a : k + r ≡ i + (j + r) = omega (arith, e) in
    rw (a) (then_to (loop_end (condition w b) (run_end w p) s (i + (j + r))) (run_end w rest) u (j + r) (ended Stuck t r)
    (turns_to w (condition w b) p (Leaves (condition w b)) (j + r) (λ v. ended Done v (j + r)) (goes_done w p) (left_done w b p (j + r)) n s i u g)
    (sticks_stuck w rest u j t c r))

faced_waiting : (w : Width) (b : CondTree) (p : ProgTree) (s : Store) (k : ℕ) (t : Store) → Faces (condition w b) s k t → loop_end (condition w b) (run_end w p) s (k + 0) ≡ ended More t 0
faced_waiting w b p s k t (h, (e, f)) =
    let z : k + 0 ≡ 0 = omega (arith, e) in
    used_up (condition w b) (run_end w p) s (k + 0) h z ∙ rw (f, z) refl

entered_waiting : (w : Width) (b : CondTree) (p : ProgTree) → ((s : Store) (k : ℕ) (t : Store) → Waits w p s k t → run_end w p s (k + 0) ≡ ended More t 0) →
    (s : Store) (k : ℕ) (t : Store) → Enters (condition w b) (Waits w p) s k t → loop_end (condition w b) (run_end w p) s (k + 0) ≡ ended More t 0
entered_waiting w b p more s k t (i, h, c, e) =
    let less : i + 0 ≡ k + 0 - 1 = omega (arith, e) in
    stopped (condition w b) (run_end w p) s (k + 0) More t 0 h (omega (arith, e)) (rw (← less) (sym (more s i t c))) (λ d. absurd cc)

pub waits_more : (w : Width) (p : ProgTree) (s : Store) (k : ℕ) (t : Store) → Waits w p s k t → run_end w p s (k + 0) ≡ ended More t 0
waits_more w empty s k t g = elim g [ ]
waits_more w (skip_then rest) s k t g = waits_more w rest s k t g
waits_more w (abort_then rest) s k t g = elim g [ ]
waits_more w (assert_then b rest) s k t (h, g) = rw (h) (waits_more w rest s k t g)
waits_more w (act_then a rest) s k t g = elim g [ ]
waits_more w (assign_then x e rest) s k t g = waits_more w rest _ k t g
waits_more w (branch_then b p q rest) s k t (inl g) =
    then_more (if condition w b s then run_end w p s (k + 0) else run_end w q s (k + 0)) (run_end w rest) t 0
    (chosen (condition w b s) _ _ _ g (λ h. waits_more w p s k t h) (λ h. waits_more w q s k t h))
waits_more w (branch_then b p q rest) s k t (inr (i, j, u, g, c, e)) =
    let a : k + 0 ≡ i + (j + 0) = omega (arith, e) in
    rw (a) (then_to (if condition w b s then run_end w p s (i + (j + 0)) else run_end w q s (i + (j + 0))) (run_end w rest) u (j + 0) (ended More t 0)
    (chosen (condition w b s) _ _ _ g (λ h. goes_done w p s i u h (j + 0)) (λ h. goes_done w q s i u h (j + 0)))
    (waits_more w rest u j t c))
waits_more w (loop_then b p rest) s k t (inl (n, g)) =
    then_more (loop_end (condition w b) (run_end w p) s (k + 0)) (run_end w rest) t 0
    (turns_to w (condition w b) p (Faces (condition w b)) 0 (λ v. ended More v 0) (goes_done w p) (faced_waiting w b p) n s k t g)
waits_more w (loop_then b p rest) s k t (inr (inl (n, g))) =
    then_more (loop_end (condition w b) (run_end w p) s (k + 0)) (run_end w rest) t 0
    (turns_to w (condition w b) p (Enters (condition w b) (Waits w p)) 0 (λ v. ended More v 0) (goes_done w p) (entered_waiting w b p (waits_more w p)) n s k t g)
waits_more w (loop_then b p rest) s k t (inr (inr (i, j, u, (n, g), c, e))) =
    let a : k + 0 ≡ i + (j + 0) = omega (arith, e) in
    rw (a) (then_to (loop_end (condition w b) (run_end w p) s (i + (j + 0))) (run_end w rest) u (j + 0) (ended More t 0)
    (turns_to w (condition w b) p (Leaves (condition w b)) (j + 0) (λ v. ended Done v (j + 0)) (goes_done w p) (left_done w b p (j + 0)) n s i u g)
    (waits_more w rest u j t c))
