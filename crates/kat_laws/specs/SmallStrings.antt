-- Bounds on the number of moves of a shortest string that refutes a question.
use Rattle.std.specs.Prelude.{◌≡◌, ◌<◌, ◌+◌, ◌*◌, [], length}
use Rattle.kat_model.specs.Trees.{acts}
use Rattle.kat_model.specs.Problems.{ProblemParts}
use Rattle.kat_model.specs.Guarded.{IsGuarded}
use Rattle.kat_model.specs.Strings.{GuardedString}
use Rattle.certificate.specs.Decisions.{pair_limit}

-- the string has fewer moves than there are pairs of sets over the closed sides, and fewer than there are pairs of
-- guarded terms if both sides are guarded and there is no hypothesis
pub record IsSmall (q : ProblemParts) (x : GuardedString) : Type 0 where
  pub moves : length x.rest < pair_limit q
  pub guarded : q.hyps ≡ [] → IsGuarded q.left → IsGuarded q.right → length x.rest < (acts q.left + 2) * (acts q.right + 2)
