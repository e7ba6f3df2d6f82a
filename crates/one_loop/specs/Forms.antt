-- The form of a program that has one loop and one additional variable, its counter (Harel 1980; in Kleene algebra with
-- tests Kozen 1997).
use Rattle.std.specs.Prelude.{◌≡◌, ◌↔◌, ◌<◌, ◌+◌, ℕ, List, [], ◌∷◌, ◌++◌, length, slice_get, true, Some}
use Rattle.kat_model.specs.Stores.{Store, IsStore, modulus}
use Rattle.kat_model.specs.declared.expression.Width.{Width}
use Rattle.while_lang.specs.Programs.{ProgTree, is_concrete}
use Rattle.while_lang.specs.Runs.{Ends}
use Rattle.one_loop.specs.Loops.{loops}
use Rattle.one_loop.specs.Variables.{HasVarsBelow}

-- a store with v variables
abbrev pub IsStoreOf : Width → ℕ → Store → Type 0
IsStoreOf w v s = (length s ≡ v) × IsStore w s

-- a store followed by the value of an additional variable
abbrev pub with_counter : Store → ℕ → Store
with_counter s c = s ++ c ∷ []

-- q is the form of the program p over v variables: it has exactly one loop, no named test and no named action, and
-- variable v is its counter. From a store s with any counter it ends in a store t with the counter 0 exactly when p
-- ends in t from s, and it never ends with another counter
pub record IsOneForm (w : Width) (p q : ProgTree) (v : ℕ) : Type 0 where
  pub single : loops q ≡ 1
  pub concrete : is_concrete q ≡ true
  pub variables : HasVarsBelow (v + 1) q
  pub ends : (s t : Store) (c : ℕ) → IsStoreOf w v s → IsStoreOf w v t → c < modulus w →
      Ends w p s t ↔ Ends w q (with_counter s c) (with_counter t 0)
  pub counter : (s u : Store) (c : ℕ) → IsStoreOf w v s → c < modulus w → Ends w q (with_counter s c) u → slice_get u v ≡ Some 0
