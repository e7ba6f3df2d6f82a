-- The laws of programs, each stated by a function of the crate that does nothing.
use Rattle.std.specs.Prelude.{◌≡◌, ◌⊎◌, ◌↔◌, ℕ, false}
use Rattle.kat_model.specs.Expressions.{CondTree}
use Rattle.kat_model.specs.Stores.{Store}
use Rattle.kat_model.specs.declared.expression.Width.{Width}
use Rattle.while_lang.specs.Programs.{ProgTree, loop_then}
use Rattle.while_lang.specs.Runs.{condition, Then, Enters, Goes}

-- a loop is left at once if its condition fails; otherwise its body is entered and the loop runs again
abbrev pub LoopsAgain : Width → CondTree → ProgTree → ProgTree → Store → ℕ → Store → Type 0
LoopsAgain w b p rest s k t =
    Goes w (loop_then b p rest) s k t
    ↔ (((condition w b s ≡ false) × Goes w rest s k t) ⊎ Then (Enters (condition w b) (Goes w p)) (Goes w (loop_then b p rest)) s k t)
