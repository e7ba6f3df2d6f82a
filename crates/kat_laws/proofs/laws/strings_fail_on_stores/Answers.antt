use Rattle.kat_laws.proofs.StoreStrings.{store_refuted}
use Rattle.kat_laws.proofs.laws.strings_fail_on_stores.Goals as goal

pub returns : goal.returns
returns c f a pre p post x first last range is goal_is refutes spells = store_refuted f a pre p post x first last range is goal_is refutes spells
