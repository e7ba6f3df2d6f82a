-- Files with only variables and programs, and the meaning of their goals over stores.
use Rattle.std.specs.Prelude.{◌≡◌, ◌↔◌, [], length, true}
use Rattle.kat_model.specs.Expressions.{CondTree}
use Rattle.kat_model.specs.Stores.{Store, IsStore, holds}
use Rattle.while_lang.specs.Programs.{ProgTree}
use Rattle.while_lang.specs.Runs.{Ends}
use Rattle.while_lang.specs.Files.{GoalTree, equal, triple, prog_side, FileParts}

-- the goal equates two programs, or is a triple of a program
abbrev pub PosesProgs : GoalTree → Type 0
PosesProgs (equal (prog_side p) (prog_side q)) = Unit {0}
PosesProgs (triple b (prog_side p) c) = Unit {0}
PosesProgs goal = ⊥

-- the file declares no test, action or term, states no hypothesis, and its goal is about programs
pub record IsConcrete (f : FileParts) : Type 0 where
  pub tests : f.tests ≡ 0
  pub actions : f.actions ≡ 0
  pub terms : f.terms ≡ 0
  pub hyps : f.hyps ≡ []
  pub poses : PosesProgs f.goal

-- a store of the file has as many numbers as the file has variables, each below 2 to its width
abbrev pub IsStoreOf : FileParts → Store → Type 0
IsStoreOf f s = (length s ≡ f.vars) × IsStore f.width s

-- from each store of the file, both programs end in the same stores
abbrev pub EndAlike : FileParts → ProgTree → ProgTree → Type 0
EndAlike f p q = (s t : Store) → IsStoreOf f s → IsStoreOf f t → Ends f.width p s t ↔ Ends f.width q s t

-- if the program ends when started where the first condition holds, the second condition holds at the end (partial
-- correctness)
abbrev pub MeetsTriple : FileParts → CondTree → ProgTree → CondTree → Type 0
MeetsTriple f b p c = (s t : Store) → IsStoreOf f s → IsStoreOf f t → holds f.width s b ≡ true → Ends f.width p s t → holds f.width t c ≡ true

-- the meaning of the goal of a concrete file over its stores
abbrev pub GoalAgrees : FileParts → GoalTree → Type 0
GoalAgrees f (equal (prog_side p) (prog_side q)) = EndAlike f p q
GoalAgrees f (triple b (prog_side p) c) = MeetsTriple f b p c
GoalAgrees f goal = ⊥

abbrev pub Agrees : FileParts → Type 0
Agrees f = GoalAgrees f f.goal
