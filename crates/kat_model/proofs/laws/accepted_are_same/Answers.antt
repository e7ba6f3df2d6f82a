-- Accepted pairs show that both sides are the same.
use Rattle.kat_model.proofs.Sameness.{accepted_same}
use Rattle.kat_model.proofs.laws.accepted_are_same.Goals as goal

pub returns : goal.returns
returns c style q pairs acc = accepted_same style q pairs acc
