-- The ids of the closed sides of a problem while the store grows, and which of the ids belong to terms in range.
use Rattle.std.proofs.Common.{◌≡◌, ℕ, List, [], ◌∷◌, Option, Some, None, refl, sym, ap, ◌∙◌, subst}
use Rattle.std.specs.Option.{option_map}
use Rattle.kat_model.specs.Problems.{ProblemParts, IsProblem}
use Rattle.kat_model.specs.Closed.{Closed, closed}
use Rattle.kat_model.proofs.Ranges.{IsInRange-HasTestsBelow}
use Rattle.kat_model.specs.Problems.{HasTestsBelow}
use Rattle.term_nodes.specs.NodeLists.{NodeParts, IsTerm}
use Rattle.term_nodes.specs.NodeTrees.{tree_at}
use Rattle.term_nodes.specs.Growth.{Grows}
use Rattle.partial_derivs.specs.Moves.{IsTermOf}
use Rattle.walk_pairs.specs.ClosedTerms.{AreIdsOf}
use Rattle.walk_pairs.specs.declared.closed.ClosedIds.{ClosedIds}
use Rattle.walk_pairs.proofs.SideRanges.{sides_in_range}

-- the universal term keeps its tree
pub universal_kept : (s t : NodeParts) → Grows s t → (o : Option ℕ) → ((u : ℕ) → o ≡ Some u → IsTerm s u) → option_map (tree_at t) o ≡ option_map (tree_at s) o
universal_kept s t grows None there = refl
universal_kept s t grows (Some u) there = ap Some (grows.trees u (there u refl))

pub ids_kept : (s t : NodeParts) (c : Closed) (ids : ClosedIds) → Grows s t → AreIdsOf s c ids → AreIdsOf t c ids
ids_kept s t c ids grows are = record {
  left_id = grows.term_numbers ids.left are.left_id;
  left = grows.trees ids.left are.left_id ∙ are.left;
  right_id = grows.term_numbers ids.right are.right_id;
  right = grows.trees ids.right are.right_id ∙ are.right;
  universal_id = λ u e. grows.term_numbers u (are.universal_id u e);
  universal = universal_kept s t grows ids.universal are.universal_id ∙ are.universal;
}

module _ (store : NodeParts) (q : ProblemParts) (problem : IsProblem q) (ids : ClosedIds) (are : AreIdsOf store (closed q) ids) where
  pub left_term : IsTermOf store q.tests ids.left
  left_term = record { is_id = are.left_id; in_range = subst (HasTestsBelow q.tests) (sym are.left) (IsInRange-HasTestsBelow q.tests q.actions (closed q).left (sides_in_range q problem).0) }

  pub right_term : IsTermOf store q.tests ids.right
  right_term = record { is_id = are.right_id; in_range = subst (HasTestsBelow q.tests) (sym are.right) (IsInRange-HasTestsBelow q.tests q.actions (closed q).right (sides_in_range q problem).1) }
