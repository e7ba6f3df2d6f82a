-- The entries of a walk, as ids, with those of the same sets merged into one pair.
use Rattle.std.specs.Prelude.{◌≡◌, ◌<◌, ℕ, List, [], ◌∷◌, ◌++◌, slice_get, Some, IsTrue}
use Rattle.kat_model.specs.Members.{Has}
use Rattle.kat_model.specs.Steps.{Atom, truth}
use Rattle.kat_model.specs.Problems.{IsTestInRange}
use Rattle.term_nodes.specs.NodeLists.{NodeParts, IsTest}
use Rattle.term_nodes.specs.NodeTrees.{test_tree_at}
use Rattle.certificate.specs.PairParts.{PairParts}
use Rattle.test_diagrams.specs.Functions.{DiagramsParts, value_of, IsDiagramId, IsAtomOf}
use Rattle.walk_regions.specs.Entries.{EntryParts}

-- an entry of the list has these sets and was reached at the atom
pub record IsReachedThere (d : DiagramsParts) (es : List EntryParts) (left right : List ℕ) (atom : Atom) : Type 0 where
  pub entry : EntryParts
  pub member : Has es entry
  pub left_is : entry.left ≡ left
  pub right_is : entry.right ≡ right
  pub holds : IsTrue (value_of d entry.test atom)

-- the diagram is true, by the second collection, exactly at the atoms at which some entry has these sets, by the first
-- collection
pub record AreAtomsOf (c d : DiagramsParts) (es : List EntryParts) (left right : List ℕ) (id : ℕ) : Type 0 where
  pub is_id : IsDiagramId d id
  pub there : (atom : Atom) → IsAtomOf d atom → IsTrue (value_of d id atom) → IsReachedThere c es left right atom
  pub back : (atom : Atom) → IsAtomOf d atom → IsReachedThere c es left right atom → IsTrue (value_of d id atom)

-- the pair has a test, which is true exactly at the atoms at which some entry has its sets
pub record IsMergedPair (store : NodeParts) (d : DiagramsParts) (es : List EntryParts) (p : PairParts) : Type 0 where
  pub test : ℕ
  pub has_test : p.test ≡ Some test
  pub is_id : IsTest store test
  pub in_range : IsTestInRange d.tests (test_tree_at store test)
  pub there : (atom : Atom) → IsAtomOf d atom → IsTrue (truth (test_tree_at store test) atom) → IsReachedThere d es p.left p.right atom
  pub back : (atom : Atom) → IsAtomOf d atom → IsReachedThere d es p.left p.right atom → IsTrue (truth (test_tree_at store test) atom)

-- one of the pairs has the sets of the entry
pub record HasPairOf (ps : List PairParts) (e : EntryParts) : Type 0 where
  pub pair : PairParts
  pub member : Has ps pair
  pub left_is : e.left ≡ pair.left
  pub right_is : e.right ≡ pair.right

-- the entry at the place is before the place `own` and has the sets of the other
pub record IsEarlierAlike (es : List EntryParts) (place own : ℕ) (other : EntryParts) : Type 0 where
  pub before : place < own
  pub entry : EntryParts
  pub at : slice_get es place ≡ Some entry
  pub left_is : entry.left ≡ other.left
  pub right_is : entry.right ≡ other.right

-- an entry before the place has the sets of the other
abbrev pub HasEarlierAlike : List EntryParts → ℕ → EntryParts → Type 0
HasEarlierAlike es own other = (k : ℕ) × IsEarlierAlike es k own other

-- the pair has the sets of an entry, no pair before it has these sets, and all earlier entries have a pair before it
pub record IsFirst (es : List EntryParts) (before : List PairParts) (p : PairParts) : Type 0 where
  pub place : ℕ
  pub entry : EntryParts
  pub at : slice_get es place ≡ Some entry
  pub left_is : entry.left ≡ p.left
  pub right_is : entry.right ≡ p.right
  pub earlier : (k : ℕ) (e : EntryParts) → k < place → slice_get es k ≡ Some e → HasPairOf before e
  pub fresh : HasPairOf before entry → ⊥

-- each of the pairs is the first with its sets, after those before it
abbrev pub AreFirst : List EntryParts → List PairParts → List PairParts → Type 0
AreFirst es before [] = Unit {0}
AreFirst es before (p ∷ ps) = IsFirst es before p × AreFirst es (before ++ p ∷ []) ps

-- the pairs have exactly the sets of the entries, each once
pub record AreMergedIds (store : NodeParts) (d : DiagramsParts) (es : List EntryParts) (ps : List PairParts) : Type 0 where
  pub firsts : AreFirst es [] ps
  pub covers : (e : EntryParts) → Has es e → HasPairOf ps e
  pub each : (p : PairParts) → Has ps p → IsMergedPair store d es p
