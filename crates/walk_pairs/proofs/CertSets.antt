-- The pairs of sets of a certificate are its pairs under tests, without the tests.
use Rattle.std.proofs.Common.{◌≡◌, List, [], ◌∷◌, map, refl, ap}
use Rattle.kat_model.specs.Pairs.{SetPair}
use Rattle.kat_model.specs.TestedPairs.{sets_of}
use Rattle.term_nodes.specs.NodeLists.{NodeParts}
use Rattle.term_nodes.specs.NumberSets.{terms_of, set_pairs_of}
use Rattle.certificate.specs.PairParts.{PairParts, only_sets as numbers_of_sets}
use Rattle.certificate.specs.Certs.{CertParts, nodes_of}
use Rattle.certificate.specs.Accepted.{set_pairs, tested_pair_of, tested_pairs}

sets_alone : (nodes : NodeParts) (ps : List PairParts) → set_pairs_of nodes (map numbers_of_sets ps) ≡ sets_of (map (tested_pair_of nodes) ps)
sets_alone nodes [] = refl
sets_alone nodes (p ∷ ps) = ap (λ (l : List SetPair). record { left = terms_of nodes p.left; right = terms_of nodes p.right } ∷ l) (sets_alone nodes ps)

pub set_pairs_are : (c : CertParts) → set_pairs c ≡ sets_of (tested_pairs c)
set_pairs_are c = sets_alone (nodes_of c) c.pairs
