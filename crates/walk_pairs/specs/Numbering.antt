-- The nodes of a certificate, numbered by their place in a list of ids.
use Rattle.std.specs.Prelude.{◌≡◌, ◌<◌, ℕ, nat_eq, List, map, slice_index_or}
use Rattle.std.specs.Option.{unwrap_or, option_map}
use Rattle.std.specs.List.{position}
use Rattle.kat_model.specs.Trees.{Term}
use Rattle.kat_model.specs.Members.{Has}
use Rattle.kat_model.specs.Problems.{IsTestInRange, IsInRange}
use Rattle.term_nodes.specs.declared.TestNode.{TestNode}
use Rattle.term_nodes.specs.declared.TestNode.TheVariants.{False, True, Prim, Not, And, Or}
use Rattle.term_nodes.specs.declared.TermNode.{TermNode}
use Rattle.term_nodes.specs.declared.TermNode.TheVariants as term
use Rattle.certificate.specs.declared.nodes.Style.{Style}
use Rattle.certificate.specs.PairParts.{PairParts}
use Rattle.certificate.specs.Certs.{CertParts, nodes_of}
use Rattle.term_nodes.specs.NodeTrees.{trees, test_tree_at, tree_at, HasTree}
use Rattle.certificate.specs.Accepted.{tested_pair_of, tested_pairs}
use Rattle.term_nodes.specs.NodeLists.{NodeParts}
use Rattle.walk_pairs.specs.Needed.{members_of, tests_of_pairs}

-- the place of an id in a list
abbrev pub number_of : List ℕ → ℕ → ℕ
number_of ids i = unwrap_or (position (nat_eq i) ids) 0

abbrev pub numbers_of : List ℕ → List ℕ → List ℕ
numbers_of ids set = map (number_of ids) set

-- the pair with its tests and terms replaced by their numbers
abbrev pub number_pair_of : List ℕ → List ℕ → PairParts → PairParts
number_pair_of tests terms p = record { left = numbers_of terms p.left; right = numbers_of terms p.right; test = option_map (number_of tests) p.test }

-- the certificate node for a store node
abbrev pub test_node_of : List ℕ → TestNode ℕ → TestNode ℕ
test_node_of tests False = False
test_node_of tests True = True
test_node_of tests (Prim k) = Prim k
test_node_of tests (Not i) = Not (number_of tests i)
test_node_of tests (And i j) = And (number_of tests i) (number_of tests j)
test_node_of tests (Or i j) = Or (number_of tests i) (number_of tests j)

abbrev pub term_node_of : List ℕ → List ℕ → TermNode ℕ ℕ → TermNode ℕ ℕ
term_node_of tests terms term.Zero = term.Zero
term_node_of tests terms term.One = term.One
term_node_of tests terms (term.Test i) = term.Test (number_of tests i)
term_node_of tests terms (term.Act a) = term.Act a
term_node_of tests terms (term.Sum i j) = term.Sum (number_of terms i) (number_of terms j)
term_node_of tests terms (term.Seq i j) = term.Seq (number_of terms i) (number_of terms j)
term_node_of tests terms (term.Star i) = term.Star (number_of terms i)

-- the certificate nodes of the given ids of a store
abbrev pub test_nodes_of : NodeParts → List ℕ → List ℕ → List (TestNode ℕ)
test_nodes_of store tests ids = map (λ i. test_node_of tests (slice_index_or store.tests i False)) ids

abbrev pub term_nodes_of : NodeParts → List ℕ → List ℕ → List ℕ → List (TermNode ℕ ℕ)
term_nodes_of store tests terms ids = map (λ i. term_node_of tests terms (slice_index_or store.terms i term.Zero)) ids

-- the terms and the tests of the pairs are in range
pub record ArePairsWithin (store : NodeParts) (tests actions : ℕ) (ps : List PairParts) : Type 0 where
  pub terms : (i : ℕ) → Has (members_of ps) i → IsInRange tests actions (tree_at store i)
  pub guards : (i : ℕ) → Has (tests_of_pairs ps) i → IsTestInRange tests (test_tree_at store i)

-- the certificate has the style and the pairs; its nodes are for terms of the store, and their tests and actions are in
-- each range that has those of the pairs
pub record IsCertOf (store : NodeParts) (style : Style) (ps : List PairParts) (c : CertParts) : Type 0 where
  pub style_is : c.style ≡ style
  pub pairs : tested_pairs c ≡ map (tested_pair_of store) ps
  pub ids : (t : Term) → Has (trees (nodes_of c)) t → HasTree store t
  pub tests_in_range : (tests actions : ℕ) → ArePairsWithin store tests actions ps → (k : ℕ) → Has c.test_nodes (Prim k) → k < tests
  pub actions_in_range : (tests actions : ℕ) → ArePairsWithin store tests actions ps → (a : ℕ) → Has c.term_nodes (term.Act a) → a < actions
