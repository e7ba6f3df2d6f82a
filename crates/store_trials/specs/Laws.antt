-- The law of trials. It is the contract of a function of the crate that does nothing.
use Rattle.std.specs.Prelude.{ℕ, List}
use Rattle.kat_model.specs.Stores.{Store}
use Rattle.while_lang.specs.Files.{FileParts}
use Rattle.while_lang.specs.Ranges.{IsGoalInRange}
use Rattle.while_lang.specs.Concrete.{IsConcrete, IsStoreOf, Agrees}
use Rattle.store_trials.specs.RunEnds.{EndParts}
use Rattle.store_trials.specs.Trials.{AreEnds, ShowFalse, IsFalseFrom}

-- if the runs of the goal of a concrete file from one of its stores show that the goal is false, then it is false from
-- this store, by the definitions of runs, and so it does not hold for all stores
pub record IsFalse (f : FileParts) (s : Store) : Type 0 where
  pub from : IsFalseFrom f.width f.goal s
  pub not_agrees : Agrees f → ⊥

abbrev pub ShownIsFalse : Type 0
ShownIsFalse =
    (f : FileParts) (s : Store) (n : ℕ) (ends : List EndParts) → IsConcrete f → IsGoalInRange f.tests f.actions f.vars f.goal → IsStoreOf f s
    → AreEnds f.width n f.goal s ends → ShowFalse f.width f.goal s ends → IsFalse f s
