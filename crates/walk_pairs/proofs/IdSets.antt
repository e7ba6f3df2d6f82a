-- Sets of terms as ids of a store.
use Rattle.std.proofs.Common.{ℕ, List, get_or, All}
use Rattle.std.proofs.lemmas.Option.{slice_get-get_or}
use Rattle.kat_model.proofs.Places.{has_at}
use Rattle.term_nodes.specs.NodeLists.{NodeParts}
use Rattle.partial_derivs.specs.Moves.{IsTermOf}
use Rattle.walk_pairs.specs.IdSets.{IsIdSet}

-- each id of the set is that of a term
pub all_terms : (store : NodeParts) (n : ℕ) (ids : List ℕ) → IsIdSet store n ids → All (IsTermOf store n) ids
all_terms store n ids set k i within = set.there (get_or ids k i) (has_at ids k (get_or ids k i) (slice_get-get_or ids k i within))
