use Rattle.std.proofs.Common.{◌≡◌, ◌-◌}
use Rattle.term_nodes.specs.Growth.{Grows}
use Rattle.certificate.specs.Decisions.{pair_limit}
use Rattle.walk_up_to.specs.Working.Walking.{IsUnderWay}
use Rattle.walk_up_to.proofs.worklist.Worklist.run.Given as goal

abbrev pub invariant-loop-place : goal.invariant-loop-place
invariant-loop-place l = record {
  under_way : IsUnderWay l.problem l.store l.self l.place;
  kept : Grows l.initial.store l.store;
  limit : l.self.listed.limit ≡ l.initial.self.listed.limit;
}

-- the number of pairs is bounded
abbrev pub decreases-loop-place : goal.decreases-loop-place
decreases-loop-place l = pair_limit l.problem - l.place
