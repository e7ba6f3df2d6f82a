-- The run of a program as a function of the store and the turns left, as the program computes it.
use Rattle.std.specs.Prelude.{ℕ, zero, suc, ◌-◌, nat_eq, Bool, if◌then◌else◌, set}
use Rattle.kat_model.specs.Stores.{Store, value, holds}
use Rattle.kat_model.specs.declared.expression.Width.{Width}
use Rattle.while_lang.specs.Programs.{ProgTree, empty, skip_then, abort_then, assert_then, act_then, assign_then, branch_then, loop_then}
use Rattle.while_lang.specs.Runs.{condition}
use Rattle.while_lang.specs.declared.outcome.Outcome.{Outcome}
use Rattle.while_lang.specs.declared.outcome.Outcome.TheVariants.{Done, Stuck, More}

-- the outcome of a run, its last store and the turns left
pub record End : Type 0 where
  pub outcome : Outcome
  pub store : Store
  pub left : ℕ

abbrev pub ended : Outcome → Store → ℕ → End
ended o s n = record { outcome = o; store = s; left = n }

abbrev pub by_outcome : Outcome → End → End → End
by_outcome Done e x = x
by_outcome Stuck e x = e
by_outcome More e x = e

-- continues with `next` if the part is done
abbrev pub then_run : End → (Store → ℕ → End) → End
then_run e next = by_outcome e.outcome e (next e.store e.left)

-- repeats the body of a loop; the first number bounds the repetitions
abbrev pub turning : ℕ → (Store → Bool) → (Store → ℕ → End) → Store → ℕ → End
turning zero b body s n = if b s then ended More s n else ended Done s n
turning (suc fuel) b body s n =
    if b s then (if nat_eq n 0 then ended More s n else then_run (body s (n - 1)) (turning fuel b body)) else ended Done s n

abbrev pub loop_end : (Store → Bool) → (Store → ℕ → End) → Store → ℕ → End
loop_end b body s n = turning n b body s n

-- the end of the run of a program; a named action is stuck
abbrev pub run_end : Width → ProgTree → Store → ℕ → End
run_end w empty s n = ended Done s n
run_end w (skip_then rest) s n = run_end w rest s n
run_end w (abort_then rest) s n = ended Stuck s n
run_end w (assert_then b rest) s n = if holds w s b then run_end w rest s n else ended Stuck s n
run_end w (act_then a rest) s n = ended Stuck s n
run_end w (assign_then x e rest) s n = run_end w rest (set s x (value w s e)) n
run_end w (branch_then b p q rest) s n = then_run (if holds w s b then run_end w p s n else run_end w q s n) (run_end w rest)
run_end w (loop_then b p rest) s n = then_run (loop_end (condition w b) (run_end w p) s n) (run_end w rest)
