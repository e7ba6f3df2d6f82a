use Rattle.std.proofs.Common.{[], ◌∷◌, map}
use Rattle.while_lang.specs.ProgramViews.{stmt_tree}
use Rattle.optimiser_steps.specs.Paths.{NoStepBefore}
use Rattle.optimiser_steps.proofs.search.+search.Given as goal

-- no step is possible before the position
abbrev pub invariant-first_step_in-loop-i : goal.invariant-first_step_in-loop-i
invariant-first_step_in-loop-i l = NoStepBefore l.file (l.i ∷ []) (map stmt_tree l.list)
