use Rattle.std.proofs.Common.{◌≡◌, take}
use Rattle.test_diagrams.specs.Functions.{KeepsFunctions}
use Rattle.walk_up_to.proofs.Expanding.{StepsBy}
use Rattle.walk_up_to.proofs.worklist.Worklist.expand.Given as goal

-- the actions so far are processed
abbrev pub invariant-loop-act : goal.invariant-loop-act
invariant-loop-act l = record {
  kept : KeepsFunctions l.initial.self.diagrams l.self.diagrams;
  same : l.self.derivatives ≡ l.initial.self.derivatives;
  limit : l.self.listed.limit ≡ l.initial.self.listed.limit;
  stepped : StepsBy l.actions l.initial.self l.self.listed l.place l.steps (take l.act-index l.act-items);
}
