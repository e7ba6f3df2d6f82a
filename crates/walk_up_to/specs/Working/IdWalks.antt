-- Walks as the program stores them, as ids of terms, and the effect of the cases of one action on them.
use Rattle.std.specs.Prelude.{◌≡◌, ◌<◌, ◌⊎◌, ℕ, Bool, List, length, slice_get, Option, Some}
use Rattle.std.specs.Option.{option_map}
use Rattle.kat_model.specs.Members.{Has, SameMembers}
use Rattle.kat_model.specs.Steps.{Atom, set_next}
use Rattle.kat_model.specs.Problems.{ProblemParts}
use Rattle.kat_model.specs.Closed.{closed}
use Rattle.kat_model.specs.Pairs.{SetPair}
use Rattle.term_nodes.specs.NodeLists.{NodeParts, AreNodes}
use Rattle.term_nodes.specs.NodeTrees.{tree_at}
use Rattle.test_diagrams.specs.Functions.{DiagramsParts, KeepsFunctions}
use Rattle.partial_derivs.specs.Moves.{IsTermOf}
use Rattle.walk_up_to.specs.Walks.{Entry, IsWalk}
use Rattle.walk_up_to.specs.Working.Visits.{IsVisited}
use Rattle.term_nodes.specs.NumberSets.{terms_of}
use Rattle.walk_up_to.specs.Listings.{entries_of, AreIdSets}
use Rattle.walk_up_to.specs.Marks.{ListedPairsParts}
use Rattle.walk_up_to.specs.Decisions.{IsWithinLimit}
use Rattle.walk_pairs.specs.Items.{chosen}
use Rattle.walk_up_to.specs.Cases.{Extends}
use Rattle.walk_pairs.specs.declared.items.Item.{Item}
use Rattle.walk_pairs.specs.declared.items.Side.TheVariants.{Left, Right}
use Rattle.walk_up_to.specs.declared.branching.StepSource.{StepSource}

-- the listed pairs are those of a walk, as ids of the store; the walk has processed the first `done`
pub record AreListedOf (q : ProblemParts) (store : NodeParts) (r : ListedPairsParts) (done : ℕ) : Type 0 where
  pub sound : AreNodes store
  pub count : r.count ≡ length store.terms
  pub sets : AreIdSets store q.tests r.pairs
  pub universal : option_map (tree_at store) r.universal ≡ (closed q).universal
  pub universal_id : (u : ℕ) → r.universal ≡ Some u → IsTermOf store q.tests u
  pub few : IsWithinLimit r.limit (length r.pairs)
  pub walk : IsWalk q (entries_of store r.pairs) done

-- at the atoms of a case the items represent the next sets of the pair by the action
pub record Represent (q : ProblemParts) (store : NodeParts) (d : DiagramsParts) (items : List Item) (p : SetPair) (a : ℕ) (decided : List (Option Bool)) : Type 0 where
  pub targets : (i : Item) → Has items i → IsTermOf store q.tests i.target
  pub lefts : (atom : Atom) → length atom ≡ q.tests → Extends decided atom → SameMembers (set_next p.left atom a) (terms_of store (chosen d Left items atom))
  pub rights : (atom : Atom) → length atom ≡ q.tests → Extends decided atom → SameMembers (set_next p.right atom a) (terms_of store (chosen d Right items atom))

-- the new pairs are the old ones and those that the case lists, under which its sets are congruent
pub record AreVisited (q : ProblemParts) (store : NodeParts) (source : StepSource) (p : SetPair) (decided : List (Option Bool)) (old new : ListedPairsParts) : Type 0 where
  pub listed : AreListedOf q store new source.place
  pub visited : IsVisited q (entries_of store old.pairs) (entries_of store new.pairs) source.place p source.act (Extends decided)

-- for every problem and store
abbrev pub Visits : DiagramsParts → StepSource → List (Option Bool) → List Item → ListedPairsParts → ListedPairsParts → Type 0
Visits d source decided items old new =
    (q : ProblemParts) (store : NodeParts) (from : Entry)
    → d.tests ≡ q.tests
    → source.act < q.actions
    → AreListedOf q store old source.place
    → slice_get (entries_of store old.pairs) source.place ≡ Some from
    → Represent q store d items from.pair source.act decided
    → AreVisited q store source from.pair decided old new

-- some walk has more pairs than may be listed
pub record IsPastLimit (q : ProblemParts) (limit : Option ℕ) : Type 0 where
  pub most : ℕ
  pub limited : limit ≡ Some most
  pub entries : List Entry
  pub done : ℕ
  pub walk : IsWalk q entries done
  pub many : most < length entries

-- for every problem and store, the case needs more pairs than may be listed
abbrev pub PassesLimit : DiagramsParts → StepSource → List (Option Bool) → List Item → ListedPairsParts → Type 0
PassesLimit d source decided items old =
    (q : ProblemParts) (store : NodeParts) (from : Entry)
    → d.tests ≡ q.tests
    → source.act < q.actions
    → AreListedOf q store old source.place
    → slice_get (entries_of store old.pairs) source.place ≡ Some from
    → Represent q store d items from.pair source.act decided
    → IsPastLimit q old.limit

-- two cases are visited one after the other
pub record VisitsInTurn (d : DiagramsParts) (source : StepSource) (first_decided : List (Option Bool)) (first : List Item) (second_decided : List (Option Bool)) (second : List Item) (old new : ListedPairsParts) : Type 0 where
  pub between : DiagramsParts
  pub middle : ListedPairsParts
  pub kept : KeepsFunctions d between
  pub visits_first : Visits d source first_decided first old middle
  pub visits_second : Visits between source second_decided second middle new

-- the first of two cases is visited, and then the second needs more pairs than may be listed
pub record PassesAfter (d : DiagramsParts) (source : StepSource) (first_decided : List (Option Bool)) (first : List Item) (second_decided : List (Option Bool)) (second : List Item) (old : ListedPairsParts) : Type 0 where
  pub between : DiagramsParts
  pub middle : ListedPairsParts
  pub kept : KeepsFunctions d between
  pub limit : middle.limit ≡ old.limit
  pub visits_first : Visits d source first_decided first old middle
  pub passes : PassesLimit between source second_decided second middle

-- one of two cases that are visited one after the other needs more pairs than may be listed
abbrev pub PassesInTurn : DiagramsParts → StepSource → List (Option Bool) → List Item → List (Option Bool) → List Item → ListedPairsParts → Type 0
PassesInTurn d source first_decided first second_decided second old =
    PassesLimit d source first_decided first old ⊎ PassesAfter d source first_decided first second_decided second old
