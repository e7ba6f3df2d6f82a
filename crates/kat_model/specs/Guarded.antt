-- Guarded terms: the terms of GKAT expressions (Smolka et al. 2020).
use Rattle.std.specs.Prelude.{◌⊎◌, ℕ, List, [], ◌∷◌}
use Rattle.kat_model.specs.Trees.{TestTree, complement, Term, zero, one, test, act, sum, product, star}
use Rattle.kat_model.specs.Members.{Has, SameMembers}
use Rattle.kat_model.specs.Steps.{reach}

-- one test decides each choice and each turn of a loop
pub data IsGuarded : Term → Type 0 where
  guarded_zero : IsGuarded zero
  guarded_one : IsGuarded one
  guarded_test : (b : TestTree) → IsGuarded (test b)
  guarded_act : (a : ℕ) → IsGuarded (act a)
  guarded_product : {e f : Term} → IsGuarded e → IsGuarded f → IsGuarded (product e f)
  guarded_choice : {e f : Term} (b : TestTree) → IsGuarded e → IsGuarded f → IsGuarded (sum (product (test b) e) (product (test (complement b)) f))
  guarded_loop : {e : Term} (b : TestTree) → IsGuarded e → IsGuarded (product (star (product (test b) e)) (test (complement b)))

-- the set is empty, or has one member: the term or a term that its steps lead to
abbrev pub IsSingle : Term → List Term → Type 0
IsSingle e es = SameMembers es [] ⊎ ((x : Term) × Has (e ∷ reach e) x × SameMembers es (x ∷ []))
