use Rattle.kat_model.proofs.Reach.{length-reach, next_reach, reach_next}
use Rattle.kat_model.proofs.laws.reach_is_closed.Goals as goal

pub returns : goal.returns
returns c e = record { count = length-reach e; first = λ atom a. next_reach atom a e; further = λ atom a x h y. reach_next atom a e x y h }
