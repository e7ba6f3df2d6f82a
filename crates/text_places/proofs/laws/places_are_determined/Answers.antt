use Rattle.text_places.proofs.Determined.{determined}
use Rattle.text_places.proofs.laws.places_are_determined.Goals as goal

pub returns : goal.returns
returns c = determined
