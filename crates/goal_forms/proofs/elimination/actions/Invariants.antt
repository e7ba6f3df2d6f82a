use Rattle.std.proofs.Common.{◌≡◌, map}
use Rattle.kat_model.specs.Trees.{kat_tree}
use Rattle.kat_model.specs.Closed.{actions_below}
use Rattle.goal_forms.proofs.elimination.actions.Given as goal

-- the actions so far
abbrev pub invariant-loop-action : goal.invariant-loop-action
invariant-loop-action l = map kat_tree l.list.items ≡ actions_below l.action
