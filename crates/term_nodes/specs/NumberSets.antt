-- Sets of terms by their numbers: ascending lists of numbers, and pairs of such lists.
use Rattle.std.specs.Prelude.{ℕ, Bool, true, ◌&&◌, nat_lt, IsTrue, List, [], ◌∷◌, map}
use Rattle.std.specs.List.{list_all}
use Rattle.kat_model.specs.Trees.{Term}
use Rattle.kat_model.specs.Pairs.{SetPair}
use Rattle.term_nodes.specs.NodeLists.{NodeParts}
use Rattle.term_nodes.specs.NodeTrees.{tree_at}

-- each number is below n
abbrev pub are_below : ℕ → List ℕ → Bool
are_below n ks = list_all (λ k. nat_lt k n) ks

-- each number is below the next
abbrev pub are_ascending : List ℕ → Bool
are_ascending [] = true
are_ascending (x ∷ []) = true
are_ascending (x ∷ y ∷ ks) = nat_lt x y && are_ascending (y ∷ ks)

-- the numbers are a set of nodes below n, in ascending order
pub record IsNumberSet (n : ℕ) (ks : List ℕ) : Type 0 where
  pub there : IsTrue (are_below n ks)
  pub ascending : IsTrue (are_ascending ks)

-- the numbers of two sets of terms
pub record NumberPair : Type 0 where
  pub left : List ℕ
  pub right : List ℕ

-- the terms with these numbers, and the pairs of sets of terms
abbrev pub terms_of : NodeParts → List ℕ → List Term
terms_of nodes ks = map (tree_at nodes) ks

abbrev pub set_pairs_of : NodeParts → List NumberPair → List SetPair
set_pairs_of nodes pairs = map (λ p. record { left = terms_of nodes p.left; right = terms_of nodes p.right }) pairs
