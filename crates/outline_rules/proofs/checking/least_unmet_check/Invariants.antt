use Rattle.std.proofs.Common.{map, take}
use Rattle.outline_rules.specs.declared.moments.Moment.TheVariants.{Before}
use Rattle.outline_rules.specs.StepFunctions.{KeepsSteps}
use Rattle.outline_rules.specs.NoteLists.{note_holds}
use Rattle.outline_rules.specs.Working.Checks.{condition_of}
use Rattle.outline_rules.specs.Working.Sets.{AreMomentSets, ShowsLeastUnmet}
use Rattle.outline_rules.proofs.checking.least_unmet_check.Given as goal

-- the least target of the unmet checks so far
abbrev pub invariant-loop-check : goal.invariant-loop-check
invariant-loop-check l = record {
  least : ShowsLeastUnmet l.problem (note_holds l.notes) (map condition_of (take l.check-index l.checks)) l.least;
  before : AreMomentSets l.diagrams Before l.problem.hyps l.notes l.before;
  kept : KeepsSteps l.initial.diagrams l.diagrams;
}
