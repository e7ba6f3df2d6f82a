use Rattle.std.proofs.Common.{◌≡◌, length}
use Rattle.kat_model.specs.Degrees.{long_hyps, with_hyps}
use Rattle.term_nodes.specs.Growth.{Grows}
use Rattle.walk_under.specs.Working.Walking.{AreClosedIds}
use Rattle.walk_under.specs.Counting.{AreShortHyps, uncounted}
use Rattle.walk_under.specs.Working.Counting.{MayBegin}
use Rattle.walk_under.proofs.deciding.string_found.Given as goal

abbrev pub invariant-walks : goal.invariant-walks
invariant-walks l = record {
  hyps : AreShortHyps l.problem l.store l.hyps;
  sides : AreClosedIds (with_hyps l.problem (long_hyps l.problem)) l.store l.sides;
  flags : length l.counts ≡ length l.hyps;
  kept : Grows l.fn.store l.store;
  walk : MayBegin l.problem l.store l.walk;
}

-- fewer hypotheses do not count
abbrev pub decreases-walks : goal.decreases-walks
decreases-walks l = uncounted l.counts
