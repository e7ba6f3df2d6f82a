use Rattle.test_diagrams.proofs.Shannon.{level_above_constant}
use Rattle.test_diagrams.proofs.diagrams.Diagrams.+of_test.Goals as goal

pub branch-self-requires-clause-low_below : goal.branch-self-requires-clause-low_below
branch-self-requires-clause-low_below t c =
    level_above_constant _ c.constant-low.ensures.reduced _ _ _ (rw c.in-Prim.is at c.requires.in_range) c.constant-low.ensures.function

pub branch-self-requires-clause-high_below : goal.branch-self-requires-clause-high_below
branch-self-requires-clause-high_below t c =
    level_above_constant _ c.constant-high.ensures.reduced _ _ _ (rw c.in-Prim.is at c.requires.in_range) c.constant-high.ensures.function
