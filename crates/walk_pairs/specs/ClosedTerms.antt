-- The closed sides of a problem as ids of a store.
use Rattle.std.specs.Prelude.{◌≡◌, ℕ, Some}
use Rattle.std.specs.Option.{option_map}
use Rattle.kat_model.specs.Closed.{Closed}
use Rattle.term_nodes.specs.NodeLists.{NodeParts, IsTerm}
use Rattle.term_nodes.specs.NodeTrees.{tree_at}
use Rattle.walk_pairs.specs.declared.closed.ClosedIds.{ClosedIds}

-- the ids are those of both sides, and of the universal term if there is one
pub record AreIdsOf (store : NodeParts) (c : Closed) (ids : ClosedIds) : Type 0 where
  pub left_id : IsTerm store ids.left
  pub left : tree_at store ids.left ≡ c.left
  pub right_id : IsTerm store ids.right
  pub right : tree_at store ids.right ≡ c.right
  pub universal_id : (u : ℕ) → ids.universal ≡ Some u → IsTerm store u
  pub universal : option_map (tree_at store) ids.universal ≡ c.universal
