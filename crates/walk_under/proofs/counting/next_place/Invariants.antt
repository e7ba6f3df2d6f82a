use Rattle.kat_model.specs.Members.{Has}
use Rattle.walk_under.proofs.counting.next_place.Given as goal

abbrev pub invariant-loop-place : goal.invariant-loop-place
invariant-loop-place l = Has l.broken l.chosen
