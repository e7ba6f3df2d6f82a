use Rattle.std.proofs.Common.{sym, subst}
use Rattle.partial_derivs.specs.Moves.{AreMerged}
use Rattle.partial_derivs.specs.Working.Gathered.{same_target}
use Rattle.partial_derivs.proofs.Merged.{moves_merged, same_target_own}
use Rattle.partial_derivs.proofs.gathered.Gathered.moves.Goals as goal

pub returns-clause-merged : goal.returns-clause-merged
returns-clause-merged c =
    let listed = c.in_ok-moves.ensures in
    subst AreMerged (sym listed.items) (moves_merged same_target same_target_own c.args.self.now.guards.entries listed.distinct)
