use Rattle.kat_model.specs.Pairs.{up_to}
use Rattle.kat_model.proofs.PairsUnderTests.{accepted_tested, tested_accepted}
use Rattle.kat_model.proofs.laws.untested_are_accepted.Goals as goal

pub returns : goal.returns
returns c q pairs = (accepted_tested up_to q pairs, tested_accepted q pairs)
