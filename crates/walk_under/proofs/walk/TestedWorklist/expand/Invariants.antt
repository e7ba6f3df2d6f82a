use Rattle.std.proofs.Common.{◌≡◌, take}
use Rattle.walk_regions.specs.Entries.{EntryParts}
use Rattle.walk_under.specs.Working.Walking.{WalkContext, IsTaking, IsTakenPair, HasStepped}
use Rattle.walk_under.proofs.walk.TestedWorklist.expand.Given as goal

-- the actions so far are processed
abbrev pub invariant-loop-act : goal.invariant-loop-act
invariant-loop-act l =
    (s : WalkContext) (from : EntryParts) → IsTaking s l.initial.self l.taken_pair.place from l.steps → IsTakenPair l.initial.self l.taken_pair from → l.actions ≡ s.problem.actions
    → HasStepped s l.initial.self l.self l.taken_pair from (take l.act-index l.act-items)
