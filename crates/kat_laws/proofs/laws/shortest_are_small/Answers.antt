use Rattle.kat_laws.proofs.SmallStrings.{shortest_small}
use Rattle.kat_laws.proofs.laws.shortest_are_small.Goals as goal

pub returns : goal.returns
returns c = shortest_small
