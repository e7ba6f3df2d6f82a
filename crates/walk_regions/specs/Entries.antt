-- Listed pairs, as ids of terms and diagrams.
use Rattle.std.specs.Prelude.{ℕ, List, Option}
use Rattle.walk_regions.specs.declared.entry.StepOrigin.{StepOrigin}

pub record EntryParts : Type 0 where
  pub left : List ℕ
  pub right : List ℕ
  pub test : ℕ
  pub level : ℕ
  pub origin : Option StepOrigin
