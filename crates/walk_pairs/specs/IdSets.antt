-- Sets of terms as ids of a store.
use Rattle.std.specs.Prelude.{ℕ, List, IsTrue}
use Rattle.kat_model.specs.Members.{Has}
use Rattle.term_nodes.specs.NodeLists.{NodeParts}
use Rattle.term_nodes.specs.NumberSets.{are_ascending}
use Rattle.partial_derivs.specs.Moves.{IsTermOf}

-- ids of terms over tests below n, in ascending order
pub record IsIdSet (store : NodeParts) (n : ℕ) (ids : List ℕ) : Type 0 where
  pub there : (i : ℕ) → Has ids i → IsTermOf store n i
  pub ascending : IsTrue (are_ascending ids)
