-- The certificates that are accepted: those whose pairs of sets of terms are a bisimulation, plain, up to congruence
-- (Hopcroft and Karp 1971; Bonchi and Pous 2013), or up to congruence under tests.
use Rattle.std.specs.Prelude.{◌<◌, ℕ, List, map, Option, Some, None}
use Rattle.kat_model.specs.Trees.{TestTree, top}
use Rattle.kat_model.specs.Members.{Has}
use Rattle.kat_model.specs.Problems.{ProblemParts}
use Rattle.kat_model.specs.Pairs.{SetPair, plain, up_to, AreAccepted}
use Rattle.kat_model.specs.Degrees.{short_hyps, long_hyps, with_hyps}
use Rattle.kat_model.specs.TestedPairs.{TestedPair, AreAcceptedUnder}
use Rattle.term_nodes.specs.declared.TestNode.TheVariants.{Prim}
use Rattle.term_nodes.specs.declared.TermNode.TheVariants.{Act}
use Rattle.term_nodes.specs.NodeLists.{NodeParts}
use Rattle.term_nodes.specs.NodeTrees.{test_tree_at}
use Rattle.term_nodes.specs.NumberSets.{terms_of, set_pairs_of}
use Rattle.certificate.specs.declared.nodes.Style.{Style}
use Rattle.certificate.specs.declared.nodes.Style.TheVariants.{Plain, UpTo, Under}
use Rattle.certificate.specs.PairParts.{PairParts}
use Rattle.certificate.specs.Certs.{CertParts, nodes_of, number_pairs}

-- the pairs of sets of terms that a certificate lists
abbrev pub set_pairs : CertParts → List SetPair
set_pairs c = set_pairs_of (nodes_of c) (number_pairs c)

-- the test of a pair; a pair without one must hold at every atom
abbrev pub test_of : NodeParts → Option ℕ → TestTree
test_of nodes None = top
test_of nodes (Some k) = test_tree_at nodes k

-- the pairs under their tests
abbrev pub tested_pair_of : NodeParts → PairParts → TestedPair
tested_pair_of nodes p =
    record { sets = record { left = terms_of nodes p.left; right = terms_of nodes p.right }; test = test_of nodes p.test }

abbrev pub tested_pairs : CertParts → List TestedPair
tested_pairs c = map (tested_pair_of (nodes_of c)) c.pairs

-- The pairs of the certificate show in this style that the sides of the question are the same. In the style of tests
-- short hypotheses are not eliminated; they determine the allowed moves.
abbrev pub ShowsSame : Style → ProblemParts → CertParts → Type 0
ShowsSame Plain q c = AreAccepted plain q (set_pairs c)
ShowsSame UpTo q c = AreAccepted up_to q (set_pairs c)
ShowsSame Under q c = AreAcceptedUnder (short_hyps q) (with_hyps q (long_hyps q)) (tested_pairs c)

-- the certificate shows that the sides of the question are the same
pub record IsAccepted (q : ProblemParts) (c : CertParts) : Type 0 where
  pub tests : (k : ℕ) → Has c.test_nodes (Prim k) → k < q.tests
  pub actions : (a : ℕ) → Has c.term_nodes (Act a) → a < q.actions
  pub pairs : ShowsSame c.style q c
