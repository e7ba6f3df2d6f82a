-- Pairs of sets of terms as ids of a store, fit for a certificate of a given style.
use Rattle.std.specs.Prelude.{ℕ, List, length}
use Rattle.kat_model.specs.Members.{Has}
use Rattle.term_nodes.specs.NodeLists.{NodeParts}
use Rattle.certificate.specs.declared.nodes.Style.{Style}
use Rattle.certificate.specs.PairParts.{PairParts}
use Rattle.certificate.specs.Certs.{HasItsTest}
use Rattle.walk_pairs.specs.IdSets.{IsIdSet}

-- both sets consist of ids of terms over tests below n, and the style allows the test
pub record IsStoredPair (store : NodeParts) (style : Style) (n : ℕ) (p : PairParts) : Type 0 where
  pub left : IsIdSet store n p.left
  pub right : IsIdSet store n p.right
  pub test : HasItsTest style (length store.tests) p.test

abbrev pub AreStoredPairs : NodeParts → Style → ℕ → List PairParts → Type 0
AreStoredPairs store style n ps = (p : PairParts) → Has ps p → IsStoredPair store style n p
