use Rattle.std.proofs.Common.{sym}
use Rattle.partial_derivs.specs.Working.Gathered.{same_target}
use Rattle.partial_derivs.proofs.Merged.{same_target_is}
use Rattle.partial_derivs.proofs.Joined.{found_guard}
use Rattle.partial_derivs.proofs.gathered.Gathered.guard_with.Goals as goal

pub or-requires-clause-left : goal.or-requires-clause-left
or-requires-clause-left c =
    found_guard c.args.diagrams.now same_target same_target_is c.args.self.now.guards.entries c.args.target.now c.in-Some.old.now c.requires.guards (sym c.in-Some.ensures.value)
