-- The parts of a certificate, and the rules that it keeps.
use Rattle.std.specs.Prelude.{◌≡◌, ◌<◌, ℕ, List, map, length, Option, Some, None}
use Rattle.kat_model.specs.Members.{Has}
use Rattle.term_nodes.specs.declared.TestNode.{TestNode}
use Rattle.term_nodes.specs.declared.TermNode.{TermNode}
use Rattle.term_nodes.specs.NodeLists.{NodeParts, AreNodes}
use Rattle.term_nodes.specs.NumberSets.{NumberPair, IsNumberSet}
use Rattle.certificate.specs.PairParts.{PairParts, only_sets}
use Rattle.certificate.specs.declared.nodes.Style.{Style}
use Rattle.certificate.specs.declared.nodes.Style.TheVariants.{Plain, UpTo, Under}

pub record CertParts : Type 0 where
  pub style : Style
  pub test_nodes : List (TestNode ℕ)
  pub term_nodes : List (TermNode ℕ ℕ)
  pub pairs : List PairParts

-- the certificate of these parts
abbrev pub cert_of : Style → List (TestNode ℕ) → List (TermNode ℕ ℕ) → List PairParts → CertParts
cert_of style tests terms pairs = record { style = style; test_nodes = tests; term_nodes = terms; pairs = pairs }

-- its nodes
abbrev pub nodes_of : CertParts → NodeParts
nodes_of c = record { tests = c.test_nodes; terms = c.term_nodes }

-- the sets of its pairs
abbrev pub number_pairs : CertParts → List NumberPair
number_pairs c = map only_sets c.pairs

-- in the style with tests, the test of a pair is a test node; in the other styles a pair has no test
abbrev pub HasItsTest : Style → ℕ → Option ℕ → Type 0
HasItsTest Plain n t = t ≡ None
HasItsTest UpTo n t = t ≡ None
HasItsTest Under n t = (k : ℕ) × (t ≡ Some k) × (k < n)

-- the sets of a pair are sets of term nodes, and its test is as its style requires
pub record IsPairOf (c : CertParts) (p : PairParts) : Type 0 where
  pub left : IsNumberSet (length c.term_nodes) p.left
  pub right : IsNumberSet (length c.term_nodes) p.right
  pub test : HasItsTest c.style (length c.test_nodes) p.test

-- nodes name earlier nodes, no node occurs twice, and the pairs are pairs of sets of these nodes
pub record IsCert (c : CertParts) : Type 0 where
  pub nodes : AreNodes (nodes_of c)
  pub pairs : (p : PairParts) → Has c.pairs p → IsPairOf c p
