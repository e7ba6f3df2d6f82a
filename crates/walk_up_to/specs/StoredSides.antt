-- The closed sides of a problem in a store.
use Rattle.kat_model.specs.Problems.{ProblemParts}
use Rattle.kat_model.specs.Closed.{closed}
use Rattle.term_nodes.specs.NodeLists.{NodeParts}
use Rattle.term_nodes.specs.NodeTrees.{HasTree}

-- the store has ids of both closed sides
pub record HasSides (store : NodeParts) (q : ProblemParts) : Type 0 where
  pub left : HasTree store (closed q).left
  pub right : HasTree store (closed q).right
