-- The nodes of a store that given terms and tests need: their own and those of all their parts.
use Rattle.std.specs.Prelude.{◌≡◌, ◌⊎◌, ◌↔◌, ◌<◌, ℕ, List, ◌++◌, length, slice_get, Some, IsTrue}
use Rattle.std.specs.List.{flat_map}
use Rattle.std.specs.Option.{option_to_list}
use Rattle.kat_model.specs.Members.{Has, IsSubset}
use Rattle.term_nodes.specs.NumberSets.{are_ascending}
use Rattle.term_nodes.specs.Nodes.{tests_of_term}
use Rattle.term_nodes.specs.NodeLists.{NodeParts}
use Rattle.term_nodes.specs.declared.TermNode.{TermNode}
use Rattle.certificate.specs.PairParts.{PairParts}

-- the id is one of the given ids, or a direct or indirect part of one
pub data IsPart (N : Type 0) (nodes : List N) (named : N → List ℕ) (from : List ℕ) : ℕ → Type 0 where
  own : (i : ℕ) → Has from i → IsPart N nodes named from i
  part : (i j : ℕ) (node : N) → IsPart N nodes named from j → slice_get nodes j ≡ Some node → Has (named node) i → IsPart N nodes named from i

-- the ids are the given ones with all their parts, in ascending order
pub record AreParts (N : Type 0) (nodes : List N) (named : N → List ℕ) (from ids : List ℕ) : Type 0 where
  pub holds : IsSubset from ids
  pub there : (i : ℕ) → Has ids i → i < length nodes
  pub ascending : IsTrue (are_ascending ids)
  pub parts : (i : ℕ) (node : N) → Has ids i → slice_get nodes i ≡ Some node → IsSubset (named node) ids
  pub only : (i : ℕ) → Has ids i → IsPart N nodes named from i

-- the ids of the terms of pairs, and of their tests
abbrev pub members_of : List PairParts → List ℕ
members_of ps = flat_map (λ p. p.left ++ p.right) ps

abbrev pub tests_of_pairs : List PairParts → List ℕ
tests_of_pairs ps = flat_map (λ p. option_to_list p.test) ps

-- the new set is the old one with the given ids added
abbrev pub AddsAll : List ℕ → List ℕ → List ℕ → Type 0
AddsAll old new ids = (i : ℕ) → Has new i ↔ (Has old i ⊎ Has ids i)

-- a node of one of the terms names the test
pub record IsNamed (store : NodeParts) (terms : List ℕ) (i : ℕ) : Type 0 where
  pub term : ℕ
  pub shape : TermNode ℕ ℕ
  pub member : Has terms term
  pub at : slice_get store.terms term ≡ Some shape
  pub names : Has (tests_of_term shape) i

-- the tests are exactly those that nodes of the terms name; and those together with the tests of pairs
abbrev pub NamesTests : NodeParts → List ℕ → List ℕ → Type 0
NamesTests store terms tests = (i : ℕ) → Has tests i ↔ IsNamed store terms i

abbrev pub NamesAllTests : NodeParts → List ℕ → List PairParts → List ℕ → Type 0
NamesAllTests store terms ps tests = (i : ℕ) → Has tests i ↔ (IsNamed store terms i ⊎ Has (tests_of_pairs ps) i)
