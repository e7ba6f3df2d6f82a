-- The terms of evidence that a store has.
use Rattle.kat_model.specs.Trees.{Term}
use Rattle.kat_model.specs.Members.{Has}
use Rattle.kat_model.specs.Problems.{ProblemParts}
use Rattle.kat_model.specs.Closed.{closed}
use Rattle.certificate.specs.declared.evidence.Evidence.{Evidence}
use Rattle.certificate.specs.Decisions.{node_terms}
use Rattle.term_nodes.specs.NodeLists.{NodeParts}
use Rattle.term_nodes.specs.NodeTrees.{HasTree}

-- the store has ids of both closed sides, and of the terms of the evidence's nodes
pub record HasIdsOf (store : NodeParts) (q : ProblemParts) (e : Evidence) : Type 0 where
  pub left : HasTree store (closed q).left
  pub right : HasTree store (closed q).right
  pub nodes : (t : Term) → Has (node_terms e) t → HasTree store t
