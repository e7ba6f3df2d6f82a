-- Runs of programs on stores, as relations: the stores reached from a store after a number of entered loop bodies.
use Rattle.std.specs.Prelude.{◌≡◌, ◌⊎◌, ◌≤◌, ℕ, zero, suc, ◌+◌, Bool, true, false, set}
use Rattle.kat_model.specs.Expressions.{CondTree}
use Rattle.kat_model.specs.Stores.{Store, value, holds}
use Rattle.kat_model.specs.declared.expression.Width.{Width}
use Rattle.while_lang.specs.Programs.{ProgTree, empty, skip_then, abort_then, assert_then, act_then, assign_then, branch_then, loop_then}
use Rattle.while_lang.specs.declared.outcome.Outcome.{Outcome}
use Rattle.while_lang.specs.declared.outcome.Outcome.TheVariants.{Done, Stuck, More}

-- relates a store, a number of entered bodies and the store reached
abbrev pub Run : Type 1
Run = Store → ℕ → Store → Type 0

-- whether the condition holds, as a function of the store
abbrev pub condition : Width → CondTree → Store → Bool
condition w b s = holds w s b

-- the store is unchanged, and no body is entered
abbrev pub Stays : Run
Stays s k t = (k ≡ 0) × (t ≡ s)

-- one run, then another
abbrev pub Then : Run → Run → Run
Then R S s k t = (i : ℕ) × (j : ℕ) × (u : Store) × R s i u × S u j t × (k ≡ i + j)

-- the condition chooses between `A` and `B`
abbrev pub Chosen : Bool → Type 0 → Type 0 → Type 0
Chosen true A B = A
Chosen false A B = B

-- the condition of a loop holds, its body is entered, and `R` follows
abbrev pub Enters : (Store → Bool) → Run → Run
Enters b R s k t = (i : ℕ) × (b s ≡ true) × R s i t × (k ≡ i + 1)

-- the condition of a loop fails, and the store is unchanged
abbrev pub Leaves : (Store → Bool) → Run
Leaves b s k t = (b s ≡ false) × Stays s k t

-- the condition of a loop holds, and its body is not entered yet
abbrev pub Faces : (Store → Bool) → Run
Faces b s k t = (b s ≡ true) × Stays s k t

-- the body of a loop runs `n` times, then `E` follows
abbrev pub Turns : ℕ → (Store → Bool) → Run → Run → Run
Turns zero b R E s k t = E s k t
Turns (suc n) b R E s k t = Then (Enters b R) (Turns n b R E) s k t

-- the body of a loop runs any number of times, then `E` follows
abbrev pub Loops : (Store → Bool) → Run → Run → Run
Loops b R E s k t = (n : ℕ) × Turns n b R E s k t

-- the program ends in store `t`; a named action has no effect on stores and has no run
abbrev pub Goes : Width → ProgTree → Store → ℕ → Store → Type 0
Goes w empty s k t = Stays s k t
Goes w (skip_then rest) s k t = Goes w rest s k t
Goes w (abort_then rest) s k t = ⊥
Goes w (assert_then b rest) s k t = (holds w s b ≡ true) × Goes w rest s k t
Goes w (act_then a rest) s k t = ⊥
Goes w (assign_then x e rest) s k t = Goes w rest (set s x (value w s e)) k t
Goes w (branch_then b p q rest) s k t = Then (λ u i v. Chosen (condition w b u) (Goes w p u i v) (Goes w q u i v)) (Goes w rest) s k t
Goes w (loop_then b p rest) s k t = Then (Loops (condition w b) (Goes w p) (Leaves (condition w b))) (Goes w rest) s k t

-- the program reaches an `abort`, or an `assert` that fails, in store `t`
abbrev pub Sticks : Width → ProgTree → Store → ℕ → Store → Type 0
Sticks w empty s k t = ⊥
Sticks w (skip_then rest) s k t = Sticks w rest s k t
Sticks w (abort_then rest) s k t = Stays s k t
Sticks w (assert_then b rest) s k t = Chosen (holds w s b) (Sticks w rest s k t) (Stays s k t)
Sticks w (act_then a rest) s k t = ⊥
Sticks w (assign_then x e rest) s k t = Sticks w rest (set s x (value w s e)) k t
Sticks w (branch_then b p q rest) s k t =
    Chosen (holds w s b) (Sticks w p s k t) (Sticks w q s k t)
    ⊎ Then (λ u i v. Chosen (condition w b u) (Goes w p u i v) (Goes w q u i v)) (Sticks w rest) s k t
Sticks w (loop_then b p rest) s k t =
    Loops (condition w b) (Goes w p) (Enters (condition w b) (Sticks w p)) s k t
    ⊎ Then (Loops (condition w b) (Goes w p) (Leaves (condition w b))) (Sticks w rest) s k t

-- the program reaches a loop body that it must enter next, in store `t`
abbrev pub Waits : Width → ProgTree → Store → ℕ → Store → Type 0
Waits w empty s k t = ⊥
Waits w (skip_then rest) s k t = Waits w rest s k t
Waits w (abort_then rest) s k t = ⊥
Waits w (assert_then b rest) s k t = (holds w s b ≡ true) × Waits w rest s k t
Waits w (act_then a rest) s k t = ⊥
Waits w (assign_then x e rest) s k t = Waits w rest (set s x (value w s e)) k t
Waits w (branch_then b p q rest) s k t =
    Chosen (holds w s b) (Waits w p s k t) (Waits w q s k t)
    ⊎ Then (λ u i v. Chosen (condition w b u) (Goes w p u i v) (Goes w q u i v)) (Waits w rest) s k t
Waits w (loop_then b p rest) s k t =
    Loops (condition w b) (Goes w p) (Faces (condition w b)) s k t
    ⊎ Loops (condition w b) (Goes w p) (Enters (condition w b) (Waits w p)) s k t
    ⊎ Then (Loops (condition w b) (Goes w p) (Leaves (condition w b))) (Waits w rest) s k t

-- the program ends in store `t` after any number of entered bodies
abbrev pub Ends : Width → ProgTree → Store → Store → Type 0
Ends w p s t = (k : ℕ) × Goes w p s k t

-- the outcome of the program and the store reached, if it may enter at most `n` bodies
abbrev pub HasOutcome : Width → ProgTree → Store → ℕ → Outcome → Store → Type 0
HasOutcome w p s n Done t = (k : ℕ) × (k ≤ n) × Goes w p s k t
HasOutcome w p s n Stuck t = (k : ℕ) × (k ≤ n) × Sticks w p s k t
HasOutcome w p s n More t = Waits w p s n t

-- exactly one of the three outcomes, with exactly one store
pub record HasOneOutcome (w : Width) (p : ProgTree) (s : Store) (n : ℕ) : Type 0 where
  pub outcome : Outcome
  pub store : Store
  pub reached : HasOutcome w p s n outcome store
  pub only : (o : Outcome) (t : Store) → HasOutcome w p s n o t → (o ≡ outcome) × (t ≡ store)
