-- How runs of lists and loops continue.
use Rattle.std.proofs.Common.{◌≡◌, ℕ, zero, suc, ◌+◌, ◌-◌, ◌<◌, ◌≤◌, nat_eq, Bool, true, false, if◌then◌else◌, List, ◌∷◌, length, drop, get_or, refl, sym, ap, ◌∙◌, ◌⊎◌, inl, inr, arith}
use Rattle.std.proofs.lemmas.Bool.{cases_eq}
use Rattle.std.proofs.lemmas.Bool.Decides.{nat_tests}
use Rattle.std.proofs.lemmas.List.{drop_more}
use Rattle.kat_model.specs.Stores.{Store}
use Rattle.kat_model.specs.declared.expression.Width.{Width}
use Rattle.while_lang.specs.Programs.{ProgTree, empty, skip_then, abort_then, assert_then, act_then, assign_then, branch_then, loop_then, StmtTree, skip, abort, assert, act, assign, branch, loop, with_stmt}
use Rattle.while_lang.specs.ProgramViews.{stmt_tree, list_tree}
use Rattle.while_lang.specs.Runs.{condition}
use Rattle.while_lang.specs.Working.Running.{End, ended, by_outcome, then_run, turning, loop_end, run_end}
use Rattle.while_lang.specs.declared.outcome.Outcome.{Outcome}
use Rattle.while_lang.specs.declared.outcome.Outcome.TheVariants.{Done, Stuck, More}
use Rattle.while_lang.specs.declared.prog.Stmt.{Stmt}

-- a run never increases the turns left
pub then_less : (e : End) (next : Store → ℕ → End) (n : ℕ) → e.left ≤ n → ((s : Store) (k : ℕ) → (next s k).left ≤ k) → (then_run e next).left ≤ n
then_less e next n h less = by_cases e.outcome
  where
    by_cases : (o : Outcome) → (by_outcome o e (next e.store e.left)).left ≤ n
    by_cases Done = omega (arith, h, less e.store e.left)
    by_cases Stuck = h
    by_cases More = h

pub turning_less : (fuel : ℕ) (b : Store → Bool) (body : Store → ℕ → End) → ((s : Store) (k : ℕ) → (body s k).left ≤ k) → (s : Store) (n : ℕ) → (turning fuel b body s n).left ≤ n
turning_less zero b body less s n = by_truth (b s)
  where
    by_truth : (x : Bool) → (if x then ended More s n else ended Done s n).left ≤ n
    by_truth true = omega arith
    by_truth false = omega arith
turning_less (suc fuel) b body less s n =
    by_truth (b s) (nat_eq n 0) (then_less (body s (n - 1)) (turning fuel b body) n (omega (arith, less s (n - 1))) (turning_less fuel b body less))
  where
    by_truth : (x y : Bool) → (then_run (body s (n - 1)) (turning fuel b body)).left ≤ n →
        (if x then (if y then ended More s n else then_run (body s (n - 1)) (turning fuel b body)) else ended Done s n).left ≤ n
    by_truth false y h = omega arith
    by_truth true true h = omega arith
    by_truth true false h = h

pub run_less : (w : Width) (p : ProgTree) (s : Store) (n : ℕ) → (run_end w p s n).left ≤ n
run_less w empty s n = omega arith
run_less w (skip_then rest) s n = run_less w rest s n
run_less w (abort_then rest) s n = omega arith
run_less w (assert_then b rest) s n = by_truth (condition w b s) (run_less w rest s n)
  where
    by_truth : (x : Bool) → (run_end w rest s n).left ≤ n → (if x then run_end w rest s n else ended Stuck s n).left ≤ n
    by_truth true h = h
    by_truth false h = omega arith
run_less w (act_then a rest) s n = omega arith
run_less w (assign_then x e rest) s n = run_less w rest _ n
run_less w (branch_then b p q rest) s n = then_less (if condition w b s then run_end w p s n else run_end w q s n) (run_end w rest) n (by_truth (condition w b s) (run_less w p s n) (run_less w q s n)) (run_less w rest)
  where
    by_truth : (x : Bool) → (run_end w p s n).left ≤ n → (run_end w q s n).left ≤ n → (if x then run_end w p s n else run_end w q s n).left ≤ n
    by_truth true h k = h
    by_truth false h k = k
run_less w (loop_then b p rest) s n = then_less (loop_end (condition w b) (run_end w p) s n) (run_end w rest) n (turning_less n (condition w b) (run_end w p) (run_less w p) s n) (run_less w rest)

pub then_same : (e : End) (f g : Store → ℕ → End) → f e.store e.left ≡ g e.store e.left → then_run e f ≡ then_run e g
then_same e f g h = ap (by_outcome e.outcome e) h

-- fuel beyond the number of turns changes nothing
pub turning_more : (f g : ℕ) (b : Store → Bool) (body : Store → ℕ → End) → ((s : Store) (k : ℕ) → (body s k).left ≤ k) → (s : Store) (n : ℕ) → n ≤ f → n ≤ g → turning f b body s n ≡ turning g b body s n
turning_more zero zero b body less s n p q = refl
turning_more zero (suc g) b body less s n p q = rw (none) refl
  where
    none : n ≡ 0
    none = omega (arith, p)
turning_more (suc f) zero b body less s n p q = rw (none) refl
  where
    none : n ≡ 0
    none = omega (arith, q)
turning_more (suc f) (suc g) b body less s n p q =
    by_cases (cases_eq n 0) (λ h. then_same (body s (n - 1)) (turning f b body) (turning g b body)
    (turning_more f g b body less (body s (n - 1)).store (body s (n - 1)).left (omega (arith, p, h, less s (n - 1))) (omega (arith, q, h, less s (n - 1)))))
  where
    by_cases : (n ≡ 0) ⊎ (n ≡ 0 → ⊥) → ((n ≡ 0 → ⊥) → then_run (body s (n - 1)) (turning f b body) ≡ then_run (body s (n - 1)) (turning g b body)) →
        turning (suc f) b body s n ≡ turning (suc g) b body s n
    by_cases (inl e) h = rw (e) refl
    by_cases (inr d) h = rw (h d) refl

-- if the condition holds and the body is done, the loop continues after the body
pub converse : (b : Store → Bool) (body : Store → ℕ → End) → ((s : Store) (k : ℕ) → (body s k).left ≤ k) →
    (s : Store) (n : ℕ) (o : Outcome) (t : Store) (k : ℕ) → b s ≡ true → 0 < n → ended o t k ≡ body s (n - 1) → o ≡ Done → loop_end b body s n ≡ loop_end b body t k
converse b body less s zero o t k h p e d = absurd (omega (arith, p))
converse b body less s (suc n) o t k h p e d =
    rw (h, last, ← e, d) (turning_more n k b body less t k (omega (arith, less s (suc n - 1), ap (λ x. x.left) e)) (omega arith))
  where
    last : nat_eq (suc n) 0 ≡ false
    last = grind (arith, nat_tests)

-- if the body is not done, the loop ends as the body does
pub stopped : (b : Store → Bool) (body : Store → ℕ → End) (s : Store) (n : ℕ) (o : Outcome) (t : Store) (k : ℕ) →
    b s ≡ true → 0 < n → ended o t k ≡ body s (n - 1) → (o ≡ Done → ⊥) → loop_end b body s n ≡ ended o t k
stopped b body s zero o t k h p e d = absurd (omega (arith, p))
stopped b body s (suc n) Done t k h p e d = absurd (d refl)
stopped b body s (suc n) Stuck t k h p e d = let l : nat_eq (suc n) 0 ≡ false = grind (arith, nat_tests) in rw (h, l, ← e) refl
stopped b body s (suc n) More t k h p e d = let l : nat_eq (suc n) 0 ≡ false = grind (arith, nat_tests) in rw (h, l, ← e) refl

-- if the condition fails, the loop is done
pub passed : (b : Store → Bool) (body : Store → ℕ → End) (s : Store) (n : ℕ) → b s ≡ false → loop_end b body s n ≡ ended Done s n
passed b body s zero h = rw (h) refl
passed b body s (suc n) h = rw (h) refl

pub used_up : (b : Store → Bool) (body : Store → ℕ → End) (s : Store) (n : ℕ) → b s ≡ true → n ≡ 0 → loop_end b body s n ≡ ended More s n
used_up b body s zero h e = rw (h) refl
used_up b body s (suc n) h e = absurd (omega (arith, e))

pub left_over : (e : End) (s : Store) (n : ℕ) → e ≡ ended Done s n → ended Done s n ≡ then_run e (ended Done)
left_over e s n h = rw (h) refl

-- a part that is not done ends the run
pub left_stopped : (e : End) (o : Outcome) (s : Store) (n : ℕ) → (o ≡ Done → ⊥) → e ≡ ended o s n → ended o s n ≡ then_run e (ended Done)
left_stopped e Done s n d h = absurd (d refl)
left_stopped e Stuck s n d h = rw (h) refl
left_stopped e More s n d h = rw (h) refl

-- ---- lists of statements

-- a run that continues with nothing continues as before
then_again : (o : Outcome) (s : Store) (n : ℕ) (next : Store → ℕ → End) → then_run (ended o s n) next ≡ then_run (then_run (ended o s n) (ended Done)) next
then_again Done s n next = refl
then_again Stuck s n next = refl
then_again More s n next = refl

-- the run of a statement and the rest is the run of the statement, continued with the rest
pub run_end-with_stmt : (w : Width) (s : StmtTree) (rest : ProgTree) (t : Store) (n : ℕ) →
    run_end w (with_stmt s rest) t n ≡ then_run (run_end w (with_stmt s empty) t n) (run_end w rest)
run_end-with_stmt w skip rest t n = refl
run_end-with_stmt w abort rest t n = refl
run_end-with_stmt w (assert b) rest t n = by_truth (condition w b t)
  where
    by_truth : (x : Bool) → (if x then run_end w rest t n else ended Stuck t n) ≡ then_run (if x then ended Done t n else ended Stuck t n) (run_end w rest)
    by_truth true = refl
    by_truth false = refl
run_end-with_stmt w (act a) rest t n = refl
run_end-with_stmt w (assign x e) rest t n = refl
run_end-with_stmt w (branch b p q) rest t n = let e = if condition w b t then run_end w p t n else run_end w q t n in then_again e.outcome e.store e.left (run_end w rest)
run_end-with_stmt w (loop b p) rest t n = let e = loop_end (condition w b) (run_end w p) t n in then_again e.outcome e.store e.left (run_end w rest)

module _ (w : Width) (items : List Stmt) (i : ℕ) (x : Stmt) (lt : i < length items) (is : x ≡ get_or items i x)
    (s : Store) (n : ℕ) (o : Outcome) (t : Store) (k : ℕ) (e : ended o t k ≡ run_end w (with_stmt (stmt_tree x) empty) s n) where
  -- the run of the remaining statements is that of the first one, continued with the others
  listed : run_end w (list_tree (drop i items)) s n ≡ then_run (ended o t k) (run_end w (list_tree (drop (i + 1) items)))
  listed =
      ap (λ (ss : List Stmt). run_end w (list_tree ss) s n) (drop_more items i x lt ∙ ap (λ (y : Stmt). y ∷ drop (i + 1) items) (sym is))
      ∙ run_end-with_stmt w (stmt_tree x) (list_tree (drop (i + 1) items)) s n
      ∙ ap (λ (r : End). then_run r (run_end w (list_tree (drop (i + 1) items)))) (sym e)

  -- if the statement is done, the run continues after it
  pub listed_more : o ≡ Done → run_end w (list_tree (drop i items)) s n ≡ run_end w (list_tree (drop (i + 1) items)) t k
  listed_more d = listed ∙ ap (λ (a : Outcome). then_run (ended a t k) (run_end w (list_tree (drop (i + 1) items)))) d

  -- if it is not done, the run ends as the statement does
  pub listed_stop : (o ≡ Done → ⊥) → run_end w (list_tree (drop i items)) s n ≡ ended o t k
  listed_stop d = listed ∙ unfinished o d
    where
      unfinished : (a : Outcome) → (a ≡ Done → ⊥) → then_run (ended a t k) (run_end w (list_tree (drop (i + 1) items))) ≡ ended a t k
      unfinished Done h = absurd (h refl)
      unfinished Stuck h = refl
      unfinished More h = refl
