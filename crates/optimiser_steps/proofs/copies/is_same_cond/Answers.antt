use Rattle.std.proofs.Common.{refl}
use Rattle.kat_model.specs.Expressions.{cond_tree}
use Rattle.optimiser_steps.proofs.ListedPrograms.{same_conditions}
use Rattle.optimiser_steps.proofs.copies.is_same_cond.Goals as goal

pub returns : goal.returns
returns c =
    same_conditions c.same.result c.in_ok-first.first c.in_ok-second.second (cond_tree c.args.left.now) (cond_tree c.args.right.now) (cond_tree c.args.left.now) (cond_tree c.args.right.now)
    c.same.ensures c.in_ok-first.ensures c.in_ok-second.ensures refl refl
