-- The members of the sets that a walk lists are in range of the problem.
use Rattle.std.proofs.Common.{ℕ, List}
use Rattle.kat_model.specs.Trees.{Term}
use Rattle.kat_model.specs.Members.{Has}
use Rattle.kat_model.specs.Problems.{ProblemParts, IsInRange, IsProblem}
use Rattle.kat_model.specs.Closed.{closed}
use Rattle.walk_pairs.proofs.SideRanges.{sides_in_range, within_side}
use Rattle.walk_up_to.specs.Walks.{Entry, IsWalk}
use Rattle.walk_up_to.proofs.Entries.{has_pair}
use Rattle.walk_up_to.proofs.Endings.{walk_bounds}

module _ (q : ProblemParts) (problem : IsProblem q) (es : List Entry) (done : ℕ) (walk : IsWalk q es done) (e : Entry) (listed : Has es e) (x : Term) where
  pub left_in_range : Has e.pair.left x → IsInRange q.tests q.actions x
  left_in_range h = within_side q (closed q).left x (sides_in_range q problem).0 (((walk_bounds q es done walk).reached e.pair (has_pair es e listed)).0 x h)

  pub right_in_range : Has e.pair.right x → IsInRange q.tests q.actions x
  right_in_range h = within_side q (closed q).right x (sides_in_range q problem).1 (((walk_bounds q es done walk).reached e.pair (has_pair es e listed)).1 x h)
