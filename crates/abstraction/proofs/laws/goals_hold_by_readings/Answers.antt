use Rattle.abstraction.proofs.ReadingAgreement.{readings_agree}
use Rattle.abstraction.proofs.laws.goals_hold_by_readings.Goals as goal

pub returns : goal.returns
returns c f a range e r stated same = readings_agree f a r range e stated same
