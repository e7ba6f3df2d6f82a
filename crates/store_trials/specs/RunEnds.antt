-- How a run of a limited number of turns ends.
use Rattle.kat_model.specs.Stores.{Store}
use Rattle.while_lang.specs.declared.outcome.Outcome.{Outcome}

pub record EndParts : Type 0 where
  pub outcome : Outcome
  pub store : Store
