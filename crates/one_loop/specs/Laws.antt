-- The laws of forms. Each is the contract of a function of the crate that does nothing.
use Rattle.std.specs.Prelude.{◌≡◌, ◌↔◌, ◌<◌, ℕ}
use Rattle.kat_model.specs.Stores.{modulus, Store}
use Rattle.kat_model.specs.declared.expression.Width.{Width}
use Rattle.while_lang.specs.Programs.{ProgTree}
use Rattle.while_lang.specs.Runs.{Ends}
use Rattle.one_loop.specs.Forms.{IsStoreOf, with_counter, IsOneForm}

-- a form ends exactly in the stores in which its program does, followed by the counter 0
abbrev pub FormsEndAsPrograms : Type 0
FormsEndAsPrograms =
    (w : Width) (p q : ProgTree) (v : ℕ) → IsOneForm w p q v → (s u : Store) (c : ℕ) → IsStoreOf w v s → c < modulus w →
    Ends w q (with_counter s c) u ↔ ((t : Store) × Ends w p s t × (u ≡ with_counter t 0))
